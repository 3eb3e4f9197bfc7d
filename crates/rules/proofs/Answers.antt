-- The committed were answered as the book answers: in their order, and as of one moment. Assumes nothing.
use Rattle.std.proofs.Common.{◌≡◌, ℕ, Bool, true, false, cond, not, T, ltb, List, [], ◌∷◌, ◌++◌, length, Some, None, Ok, Option, Ordering, sym, refl, ap, ◌∙◌, subst, inl, inr, ⊎_elim}
use Rattle.std.proofs.lemmas.Bool.{false≢true, true≢false, cases_Bool}
use Rattle.rules.specs.declared.BookCall.{BookCall}
use Rattle.rules.specs.declared.BookCall.TheVariants as book
use Rattle.rules.specs.declared.Answer.TheVariants as answer
use Rattle.rules.specs.Keys.{same}
use Rattle.keys.specs.Laws.{TotalOrder}
use Rattle.index.specs.Listed as lists
use Rattle.seeing.specs.Phases.{is_serializable}
use Rattle.rules.specs.Book.{Book, Exchange, is_done, value_or_absent, by_value, book_answer, book_rows, changed, after, played, AnsweredBy}
use Rattle.rules.specs.Runs.{History, life, Position}
use Rattle.rules.specs.Law.{stamp_of, end_stamp, book_of, ToldInTurn, OneMoment, serial_order}
use Rattle.serial.specs.Lists.{In, Each, keep, change}
use Rattle.serial.specs.Machine.{Game, Transaction, State, pending, play, view, Told, stays, apply, below, settled}
use Rattle.serial.proofs.Lists.{All_at, keep_keep}
use Rattle.serial.proofs.Steps.{serial_law}
use Rattle.serial.proofs.Orders.{In_kept}
use Rattle.rules.proofs.Game.{game, Right, RightCall, puts, same_true, same_self}
use Rattle.rules.proofs.Relation.{forward, level_of, life_of, Inv}
use Rattle.rules.proofs.Firsts.{stamp_is}
use Rattle.rules.proofs.Books.{Holds, value_holds, scan_same, holds_put, holds_out, holds_none}
use Rattle.rules.proofs.Checks.{T_true}

module _ {K : Type 0} (V : Type 0) (order : K → K → Ordering) (total : TotalOrder order) where
  abbrev G : Game
  G = game V order total

  abbrev Tx : Type 0
  Tx = Transaction (game V order total)

  put_here : (b : Bool) (o : Option (Option V)) (y : Option V) → b ≡ true → stays (cond b o None) y ≡ stays o y
  put_here true o y e = refl
  put_here false o y e = absurd (false≢true e)

  put_other : (b : Bool) (o : Option (Option V)) (y : Option V) → b ≡ false → stays (cond b o None) y ≡ y
  put_other true o y e = absurd (true≢false e)
  put_other false o y e = refl

  apart : (j k : K) → (j ≡ k → ⊥) → same order j k ≡ false
  apart j k d = ⊎_elim (λ e. absurd (d (same_true order total j k e))) (λ e. e) (cases_Bool (same order j k))

  changed_holds : (c : BookCall K V) (b : Book K V) (f : K → Option V) → Holds order total b f → Holds order total (changed order b c) (λ k. stays (puts order c k) (f k))
  changed_holds (book.Read j) b f h = h
  changed_holds (book.Scan l u) b f h = h
  changed_holds (book.Insert j x) b f h = holds_put order total b f _ j x h (put_here (same order j j) (Some (Some x)) (f j) (same_self order total j)) (λ k d. put_other (same order j k) (Some (Some x)) (f k) (apart j k d))
  changed_holds (book.Update j x) b f h = holds_put order total b f _ j x h (put_here (same order j j) (Some (Some x)) (f j) (same_self order total j)) (λ k d. put_other (same order j k) (Some (Some x)) (f k) (apart j k d))
  changed_holds (book.Delete j) b f h = holds_out order total b f _ j h (put_here (same order j j) (Some None) (f j) (same_self order total j)) (λ k d. put_other (same order j k) (Some None) (f k) (apart j k d))

  after_holds : (x : Exchange K V) (b : Book K V) (f : K → Option V) → Holds order total b f → Holds order total (after order b x) (apply (game V order total) x f)
  after_holds x b f h = go (is_done x.answer)
    where
      go : (d : Bool) → Holds order total (cond d (changed order b x.call) b) (λ k. stays (cond d (puts order x.call k) None) (f k))
      go true = changed_holds x.call b f h
      go false = h

  answer_same : (x : Exchange K V) (b : Book K V) (f : K → Option V) → Holds order total b f → Right order x f → (x.answer ≡ Ok (book_answer order b x.call)) × (x.rows ≡ book_rows order b x.call)
  answer_same x b f h r = go x.call r
    where
      go : (c : BookCall K V) → RightCall order c x.answer x.rows f → (x.answer ≡ Ok (book_answer order b c)) × (x.rows ≡ book_rows order b c)
      go (book.Read j) r = (r.0 ∙ ap (λ o. Ok (value_or_absent o)) (sym (value_holds order total b f h j)), r.1)
      go (book.Scan l u) r = let z = scan_same order total b f l u x.rows h r.1 in (r.0 ∙ ap (λ rs. Ok (answer.Number (length rs))) z, z)
      go (book.Insert j v) r = (r.0 ∙ ap (λ o. Ok (by_value answer.Present answer.Done o)) (sym (value_holds order total b f h j)), r.1)
      go (book.Update j v) r = (r.0 ∙ ap (λ o. Ok (by_value answer.Done answer.Absent o)) (sym (value_holds order total b f h j)), r.1)
      go (book.Delete j) r = (r.0 ∙ ap (λ o. Ok (by_value answer.Done answer.Absent o)) (sym (value_holds order total b f h j)), r.1)

  played_more : (b : Book K V) (xs : List (Exchange K V)) (y : Exchange K V) → played order b (xs ++ (y ∷ [])) ≡ after order (played order b xs) y
  played_more b [] y = refl
  played_more b (x ∷ xs) y = played_more (after order b x) xs y

  answered_more : (b : Book K V) (xs : List (Exchange K V)) (y : Exchange K V) → AnsweredBy order b xs →
      (y.answer ≡ Ok (book_answer order (played order b xs) y.call)) × (y.rows ≡ book_rows order (played order b xs) y.call) → AnsweredBy order b (xs ++ (y ∷ []))
  answered_more b [] y h z = (z.0, z.1, tt)
  answered_more b (x ∷ xs) y h z = (h.0, h.1, answered_more (after order b x) xs y h.2 z)

  pub played_holds : (ms : List (Exchange K V)) (b : Book K V) (f : K → Option V) → Holds order total b f → Holds order total (played order b (forward ms)) (play (game V order total) f ms)
  played_holds [] b f h = h
  played_holds (m ∷ ms) b f h = subst (λ z. Holds order total z (play (game V order total) f (m ∷ ms))) (sym (played_more b (forward ms) m)) (after_holds m (played order b (forward ms)) (play (game V order total) f ms) (played_holds ms b f h))

  pub answered : (ms : List (Exchange K V)) (b : Book K V) (f : K → Option V) → Holds order total b f → Told (game V order total) f ms → AnsweredBy order b (forward ms)
  answered [] b f h t = tt
  answered (m ∷ ms) b f h t = answered_more b (forward ms) m (answered ms b f h t.0) (answer_same m (played order b (forward ms)) (play (game V order total) f ms) (played_holds ms b f h) t.1)

  module _ (h : History K V) where
    book_more : (b : Book K V) (ns : List ℕ) (n : ℕ) → book_of order h b (ns ++ (n ∷ [])) ≡ played order (book_of order h b ns) (life h n).transcript
    book_more b [] n = refl
    book_more b (m ∷ ns) n = book_more (played order b (life h m).transcript) ns n

    told_more : (b : Book K V) (ns : List ℕ) (n : ℕ) → ToldInTurn order h b ns → (T (is_serializable (life h n).level) → AnsweredBy order (book_of order h b ns) (life h n).transcript) → ToldInTurn order h b (ns ++ (n ∷ []))
    told_more b [] n t a = (a, tt)
    told_more b (m ∷ ns) n t a = (t.0, told_more (played order b (life h m).transcript) ns n t.1 a)

    pub book_holds : (l : List Tx) → ((t : Tx) → In t l → (life h t.name).transcript ≡ forward t.moves) → Holds order total (book_of order h [] (forward (change (λ t. t.name) l))) (view (game V order total) l)
    book_holds [] same = holds_none order total
    book_holds (t ∷ l) same =
        subst (λ z. Holds order total z (view (game V order total) (t ∷ l))) (sym (book_more [] (forward (change (λ t. t.name) l)) t.name ∙ ap (played order (book_of order h [] (forward (change (λ t. t.name) l)))) (same t (inl refl))))
        (played_holds t.moves (book_of order h [] (forward (change (λ t. t.name) l))) (view (game V order total) l) (book_holds l (λ u i. same u (inr i))))

    ser_level : (b : Bool) → T (is_serializable (level_of b)) → b ≡ true
    ser_level true x = refl
    ser_level false x = absurd x

    told_turn : (l : List Tx) → ((t : Tx) → In t l → life h t.name ≡ life_of V order total t) → Each (λ t before. t.ser ≡ true → Told (game V order total) (view (game V order total) before) t.moves) l → ToldInTurn order h [] (forward (change (λ t. t.name) l))
    told_turn [] same told = tt
    told_turn (t ∷ l) same told = told_more [] (forward (change (λ t. t.name) l)) t.name (told_turn l (λ u i. same u (inr i)) told.1)
        (λ ser. subst (AnsweredBy order (book_of order h [] (forward (change (λ t. t.name) l)))) (sym (ap (λ z. z.transcript) (same t (inl refl))))
        (answered t.moves (book_of order h [] (forward (change (λ t. t.name) l))) (view (game V order total) l) (book_holds l (λ u i. ap (λ z. z.transcript) (same u (inr i)))) (told.0 (ser_level t.ser (subst (λ z. T (is_serializable z.level)) (same t (inl refl)) ser)))))

    keep_snoc : (f : ℕ → Bool) (ns : List ℕ) (n : ℕ) → lists.keep f (ns ++ (n ∷ [])) ≡ lists.keep f ns ++ cond (f n) (n ∷ []) []
    keep_snoc f [] n = refl
    keep_snoc f (m ∷ ns) n = go (f m) (keep_snoc f ns n)
      where
        go : (b : Bool) → lists.keep f (ns ++ (n ∷ [])) ≡ lists.keep f ns ++ cond (f n) (n ∷ []) [] → cond b (m ∷ lists.keep f (ns ++ (n ∷ []))) (lists.keep f (ns ++ (n ∷ []))) ≡ cond b (m ∷ lists.keep f ns) (lists.keep f ns) ++ cond (f n) (n ∷ []) []
        go true r = ap (λ z. m ∷ z) r
        go false r = r

    ++-none : (ns : List ℕ) → (ns ++ []) ≡ ns
    ++-none [] = refl
    ++-none (n ∷ ns) = ap (λ z. n ∷ z) (++-none ns)

    keep_names : (f : ℕ → Bool) (g : Tx → Bool) (l : List Tx) → ((t : Tx) → In t l → f t.name ≡ g t) → lists.keep f (forward (change (λ t. t.name) l)) ≡ forward (change (λ t. t.name) (keep g l))
    keep_names f g [] same = refl
    keep_names f g (t ∷ l) same =
        keep_snoc f (forward (change (λ t. t.name) l)) t.name ∙ ap (λ b. lists.keep f (forward (change (λ t. t.name) l)) ++ cond b (t.name ∷ []) []) (same t (inl refl))
        ∙ ap (λ z. z ++ cond (g t) (t.name ∷ []) []) (keep_names f g l (λ u i. same u (inr i))) ∙ go (g t)
      where
        go : (b : Bool) → (forward (change (λ t. t.name) (keep g l)) ++ cond b (t.name ∷ []) []) ≡ forward (change (λ t. t.name) (cond b (t ∷ keep g l) (keep g l)))
        go true = refl
        go false = ++-none (forward (change (λ t. t.name) (keep g l)))

  module _ (p : Position K V) (s : State (game V order total)) (inv : Inv V order total p s) where
    done_lives : (t : Tx) → In t (settled (game V order total) s.line) → life p.history t.name ≡ life_of V order total t
    done_lives t i = inv.tale.lives t (inl (In_kept (λ t. not (pending t.stage)) t s.line i).0)

    -- played one after the other, each serializable one got the book's answers
    pub told_in_turn : ToldInTurn order p.history [] (serial_order p.history)
    told_in_turn = subst (ToldInTurn order p.history []) (sym inv.tale.serial) (told_turn p.history (settled (game V order total) s.line) done_lives (serial_law (game V order total) s inv.way).run)

    -- each committed one was answered as of its begin stamp
    pub one_moment : OneMoment order p
    one_moment n sealed = subst (λ b. AnsweredBy order b (life p.history n).transcript) (ap (book_of order p.history []) (sym names))
        (subst (AnsweredBy order (book_of order p.history [] (forward (change (λ t. t.name) (settled (game V order total) (below (game V order total) t.name s.line)))))) (sym (ap (λ z. z.transcript) life_t))
        (answered t.moves _ (view (game V order total) (settled (game V order total) (below (game V order total) t.name s.line)))
        (book_holds p.history (settled (game V order total) (below (game V order total) t.name s.line)) (λ u j. ap (λ z. z.transcript) (inv.tale.lives u (inl (In_kept (λ x. ltb x.end t.name) u s.line (In_kept (λ t. not (pending t.stage)) u (below (game V order total) t.name s.line) j).0).0))))
        (All_at _ t s.line i (serial_law (game V order total) s inv.way).snapshot (inv.tale.committed n (T_true _ sealed)).1.1.1)))
      where
        t : Tx
        t = (inv.tale.committed n (T_true _ sealed)).0

        i : In t s.line
        i = (inv.tale.committed n (T_true _ sealed)).1.0

        q : t.name ≡ n
        q = (inv.tale.committed n (T_true _ sealed)).1.1.0

        life_t : life p.history n ≡ life_of V order total t
        life_t = ap (life p.history) (sym q) ∙ inv.tale.lives t (inl i)

        stamp : (u : Tx) → In u (settled (game V order total) s.line) → ltb (stamp_of p.history u.name) n ≡ ltb u.end t.name
        stamp u j =
            let k = In_kept (λ t. not (pending t.stage)) u s.line j in
            ap (λ z. ltb (end_stamp z.stamp) n) (inv.tale.lives u (inl k.0)) ∙ ap (λ z. ltb (end_stamp z) n) (stamp_is u.stage u.end u.end (inv.roll.lined u k.0)) ∙ ap (ltb u.end) (sym q)

        names : lists.keep (λ m. ltb (stamp_of p.history m) n) (serial_order p.history) ≡ forward (change (λ t. t.name) (settled (game V order total) (below (game V order total) t.name s.line)))
        names = ap (lists.keep (λ m. ltb (stamp_of p.history m) n)) inv.tale.serial
            ∙ keep_names p.history (λ m. ltb (stamp_of p.history m) n) (λ u. ltb u.end t.name) (settled (game V order total) s.line) stamp
            ∙ ap (λ l. forward (change (λ t. t.name) l)) (keep_keep (λ u. ltb u.end t.name) (λ t. not (pending t.stage)) s.line)
