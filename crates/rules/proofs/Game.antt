-- The store's book calls as moves of the abstract machine. Assumes nothing.
use Rattle.std.proofs.Common.{◌≡◌, Bool, true, false, cond, List, [], ◌∷◌, length, Some, None, Ok, Option, Ordering, Less, Equal, Greater, sym, refl, ap, ◌∙◌, subst}
use Rattle.std.proofs.lemmas.Bool.{false≢true}
use Rattle.std.specs.Ordering.{is_eq, is_lt}
use Rattle.rules.specs.declared.BookCall.{BookCall}
use Rattle.rules.specs.declared.BookCall.TheVariants as book
use Rattle.rules.specs.declared.Row.{Row}
use Rattle.rules.specs.declared.Answer.{Answer}
use Rattle.rules.specs.declared.Answer.TheVariants as answer
use Rattle.rules.specs.Keys.{same, below, within}
use Rattle.keys.specs.Laws.{TotalOrder}
use Rattle.rules.specs.Checks.{Checked}
use Rattle.rules.specs.Book.{Exchange, is_done, value_or_absent, by_value}
use Rattle.serial.specs.Lists.{In, All}
use Rattle.serial.specs.Machine.{Game, given}
use Rattle.serial.proofs.Lists.{All_to}

pub is_equal : (o : Ordering) → is_eq o ≡ true → o ≡ Equal
is_equal Less e = absurd (false≢true e)
is_equal Equal e = refl
is_equal Greater e = absurd (false≢true e)

pub is_less : (o : Ordering) → is_lt o ≡ true → o ≡ Less
is_less Less e = refl
is_less Equal e = absurd (false≢true e)
is_less Greater e = absurd (false≢true e)

module _ {K : Type 0} (order : K → K → Ordering) (total : TotalOrder order) where
  pub same_true : (k l : K) → same order k l ≡ true → k ≡ l
  same_true k l e = total.same k l (is_equal (order k l) e)

  pub below_trans : (k l m : K) → below order k l ≡ true → below order l m ≡ true → below order k m ≡ true
  below_trans k l m e f = ap is_lt (total.trans k l m (is_less (order k l) e) (is_less (order l m) f))

  pub same_self : (k : K) → same order k k ≡ true
  same_self k = ap is_eq (total.itself k)

  pub same_from : (k l : K) → k ≡ l → same order k l ≡ true
  same_from k l e = subst (λ x. same order k x ≡ true) e (same_self k)

module _ {K V : Type 0} (order : K → K → Ordering) where
  -- a book call looks at the key
  abbrev pub looks : BookCall K V → K → Bool
  looks (book.Read j) k = same order j k
  looks (book.Scan lower upper) k = within order lower upper k
  looks (book.Insert j x) k = same order j k
  looks (book.Update j x) k = same order j k
  looks (book.Delete j) k = same order j k

  -- what it puts in the place of the key's content, if it is done
  abbrev pub puts : BookCall K V → K → Option (Option V)
  puts (book.Read j) k = None
  puts (book.Scan lower upper) k = None
  puts (book.Insert j x) k = cond (same order j k) (Some (Some x)) None
  puts (book.Update j x) k = cond (same order j k) (Some (Some x)) None
  puts (book.Delete j) k = cond (same order j k) (Some None) None

  abbrev pub effect : Exchange K V → K → Option (Option V)
  effect x k = cond (is_done x.answer) (puts x.call k) None

  -- the rows rise by key
  abbrev pub Rising : List (Row K V) → Type 0
  Rising [] = Unit {0}
  Rising (r ∷ rs) = All (λ s. below order r.key s.key ≡ true) rs × Rising rs

  -- the rows are those of the view from lower to upper
  pub record Rows (lower upper : K) (rows : List (Row K V)) (f : K → Option V) : Type 0 where
    pub rising : Rising rows
    pub each : All (λ r. (within order lower upper r.key ≡ true) × (f r.key ≡ Some r.value)) rows
    pub every : (k : K) (x : V) → within order lower upper k ≡ true → f k ≡ Some x → In (record { key = k; value = x }) rows

  abbrev pub RightCall : BookCall K V → Checked (Answer V) → List (Row K V) → (K → Option V) → Type 0
  RightCall (book.Read j) a rows f = (a ≡ Ok (value_or_absent (f j))) × (rows ≡ [])
  RightCall (book.Scan lower upper) a rows f = (a ≡ Ok (answer.Number (length rows))) × Rows lower upper rows f
  RightCall (book.Insert j x) a rows f = (a ≡ Ok (by_value answer.Present answer.Done (f j))) × (rows ≡ [])
  RightCall (book.Update j x) a rows f = (a ≡ Ok (by_value answer.Done answer.Absent (f j))) × (rows ≡ [])
  RightCall (book.Delete j) a rows f = (a ≡ Ok (by_value answer.Done answer.Absent (f j))) × (rows ≡ [])

  abbrev pub Right : Exchange K V → (K → Option V) → Type 0
  Right x f = RightCall x.call x.answer x.rows f

  module _ (total : TotalOrder order) where
    rows_local : (lower upper : K) (rows : List (Row K V)) (f g : K → Option V) → ((k : K) → within order lower upper k ≡ true → f k ≡ g k) → Rows lower upper rows f → Rows lower upper rows g
    rows_local lower upper rows f g agree h = record {
      rising = h.rising;
      each = All_to _ _ (λ r q. (q.0, sym (agree r.key q.0) ∙ q.1)) rows h.each;
      every = λ k x w e. h.every k x w (agree k w ∙ e);
    }

    pub right_local : (x : Exchange K V) (f g : K → Option V) → ((k : K) → looks x.call k ≡ true → f k ≡ g k) → Right x f → Right x g
    right_local x f g agree h = go x.call agree h
      where
        one : (j : K) (a : Checked (Answer V)) (F : Option V → Checked (Answer V)) → f j ≡ g j → a ≡ F (f j) → a ≡ F (g j)
        one j a F e q = q ∙ ap F e

        go : (c : BookCall K V) → ((k : K) → looks c k ≡ true → f k ≡ g k) → RightCall c x.answer x.rows f → RightCall c x.answer x.rows g
        go (book.Read j) agree h = (one j _ (λ o. Ok (value_or_absent o)) (agree j (same_self order total j)) h.0, h.1)
        go (book.Scan lower upper) agree h = (h.0, rows_local lower upper x.rows f g agree h.1)
        go (book.Insert j v) agree h = (one j _ (λ o. Ok (by_value answer.Present answer.Done o)) (agree j (same_self order total j)) h.0, h.1)
        go (book.Update j v) agree h = (one j _ (λ o. Ok (by_value answer.Done answer.Absent o)) (agree j (same_self order total j)) h.0, h.1)
        go (book.Delete j) agree h = (one j _ (λ o. Ok (by_value answer.Done answer.Absent o)) (agree j (same_self order total j)) h.0, h.1)

    puts_looks : (c : BookCall K V) (k : K) → given (puts c k) ≡ true → looks c k ≡ true
    puts_looks (book.Read j) k e = absurd (false≢true e)
    puts_looks (book.Scan lower upper) k e = absurd (false≢true e)
    puts_looks (book.Insert j x) k e = go (same order j k) e
      where
        go : (b : Bool) → given (cond b (Some (Some x)) None) ≡ true → b ≡ true
        go true e = refl
        go false e = e
    puts_looks (book.Update j x) k e = go (same order j k) e
      where
        go : (b : Bool) → given (cond b (Some (Some x)) None) ≡ true → b ≡ true
        go true e = refl
        go false e = e
    puts_looks (book.Delete j) k e = go (same order j k) e
      where
        go : (b : Bool) → given {A = Option V} (cond b (Some None) None) ≡ true → b ≡ true
        go true e = refl
        go false e = e

    pub changes : (x : Exchange K V) (k : K) → given (effect x k) ≡ true → looks x.call k ≡ true
    changes x k e = go (is_done x.answer) e
      where
        go : (b : Bool) → given (cond b (puts x.call k) None) ≡ true → looks x.call k ≡ true
        go true e = puts_looks x.call k e
        go false e = absurd (false≢true e)

module _ {K : Type 0} (V : Type 0) (order : K → K → Ordering) (total : TotalOrder order) where
  abbrev pub game : Game
  game = record {
    Key = K;
    Value = V;
    Move = Exchange K V;
    covers = λ x k. looks order x.call k;
    effect = effect order;
    right = Right order;
    local = right_local order total;
    changes = changes order total;
  }
