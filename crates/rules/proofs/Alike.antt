-- Steps that change no name, no end stamp and nothing that was put: the versions say what they said. Assumes nothing.
use Rattle.std.proofs.Common.{◌≡◌, ℕ, ◌≤◌, Bool, true, false, cond, not, ◌&&◌, eqb, List, ◌∷◌, None, sym, refl, ap, ◌∙◌, subst, inl, inr, ⊎_elim}
use Rattle.seeing.specs.declared.Begin.{Begin}
use Rattle.seeing.specs.declared.Begin.TheVariants as begin
use Rattle.seeing.specs.declared.End.{End}
use Rattle.seeing.specs.declared.End.TheVariants as end
use Rattle.seeing.specs.Seeing.{as_end}
use Rattle.serial.specs.Lists.{In, change}
use Rattle.serial.specs.Machine.{Game, Transaction, State, Stage, committed, pending, touched, given, retag, moved}
use Rattle.serial.proofs.Lists.{In_change}
use Rattle.serial.proofs.Orders.{In_changed}
use Rattle.rules.proofs.Times.{come, either, Ver, ending, time, shown, last, latest, upto, Here, BegunBy}
use Rattle.rules.proofs.Relation.{SettledAt, Begins, Ends, Late, Shows, Own, Marked, Shelf}
use Rattle.rules.specs.declared.Entry.{Entry}
use Rattle.rules.proofs.Lines.{given_last, latest_retag, upto_retag, ending_retag}

module _ (G : Game) where
  -- t of before is t' of now
  pub record Twin (t t' : Transaction G) : Type 0 where
    pub name : t.name ≡ t'.name
    pub end : t.end ≡ t'.end
    pub put : (k : G.Key) → last G t.moves k ≡ last G t'.moves k

  pub twin_touched : (t t' : Transaction G) → Twin t t' → (k : G.Key) → touched G t.moves k ≡ touched G t'.moves k
  twin_touched t t' w k = sym (given_last G t.moves k) ∙ ap given (w.put k) ∙ given_last G t'.moves k

  pub record Like (s s' : State G) : Type 0 where
    pub clock : s'.clock ≡ s.clock
    pub ends : (m : ℕ) → ending G s'.line m ≡ ending G s.line m
    pub puts : (R : ℕ) (k : G.Key) → latest G (upto G R s'.line) k ≡ latest G (upto G R s.line) k
    pub back : (t' : Transaction G) → In t' s'.line → (t : Transaction G) × (In t s.line × (Twin t t' × (pending t'.stage ≡ true → pending t.stage ≡ true)))
    pub on : (t : Transaction G) → In t s.line → t.stage ≡ committed → (t' : Transaction G) × (In t' s'.line × (Twin t t' × (t'.stage ≡ committed)))
    pub back' : (t' : Transaction G) → In t' s'.active → (t : Transaction G) × (In t s.active × Twin t t')

  module _ (vs : List (Entry (Ver G))) (there : ℕ → Bool) (s s' : State G) (like : Like s s') where
    here_back : (t' : Transaction G) → Here G s' t' → (t : Transaction G) × (Here G s t × Twin t t')
    here_back t' (inl i) = let r = like.back t' i in (r.0, (inl r.1.0, r.1.1.0))
    here_back t' (inr i) = let r = like.back' t' i in (r.0, (inr r.1.0, r.1.1))

    time_like : (m : End) → time G s'.line m ≡ time G s.line m
    time_like (end.Stamp b) = refl
    time_like (end.Owner m) = like.ends m
    time_like end.Open = refl

    shown_like : (R : ℕ) (v : Ver G) → shown G s'.line R v ≡ shown G s.line R v
    shown_like R v = ap (λ o. come R o && not (come R (time G s'.line v.end))) (time_like (as_end v.begin)) ∙ ap (λ o. come R (time G s.line (as_end v.begin)) && not (come R o)) (time_like v.end)

    begun_like : (n : ℕ) (v : Ver G) → BegunBy G s.line n v → BegunBy G s'.line n v
    begun_like n v h = (h.0, (time_like (as_end v.begin) ∙ h.1.0, h.1.1))

    begins_like : (v : Ver G) (b : Begin) → Begins G s there v b → Begins G s' there v b
    begins_like v (begin.Owner m) h = (h.0, λ t' i e. let r = here_back t' i in sym (twin_touched r.0 t' r.1.1 v.key) ∙ h.1 r.0 r.1.0 (r.1.1.name ∙ e))
    begins_like v (begin.Stamp b) h = (subst (λ c. b ≤ c) (sym like.clock) h.0, ⊎_elim (λ e. inl e) (λ z. inr (on z)) h.1)
      where
        on : SettledAt G s b v.key → SettledAt G s' b v.key
        on z = let r = like.on z.0 z.1.0 z.1.1.0 in
            (r.0, (r.1.0, (r.1.1.1, (sym r.1.1.0.end ∙ z.1.1.1.0, sym (twin_touched z.0 r.0 r.1.1.0 v.key) ∙ z.1.1.1.1))))

    ends_like : (v : Ver G) (e : End) → Ends G s there v e → Ends G s' there v e
    ends_like v (end.Owner m) h = (
      h.0,
      λ t' i e.
          let r = here_back t' i in let q = h.1 r.0 r.1.0 (r.1.1.name ∙ e) in
          (sym (twin_touched r.0 t' r.1.1 v.key) ∙ q.0, ⊎_elim (λ e. inl e) (λ z. inr (begun_like m v z)) q.1),
    )
    ends_like v (end.Stamp b) h = (subst (λ c. b ≤ c) (sym like.clock) h.0, ⊎_elim (λ e. inl e) (λ z. inr (on z)) h.1)
      where
        on : (t : Transaction G) × (In t s.line × ((t.stage ≡ committed) × ((t.end ≡ b) × ((touched G t.moves v.key ≡ true) × BegunBy G s.line t.name v)))) →
            (t : Transaction G) × (In t s'.line × ((t.stage ≡ committed) × ((t.end ≡ b) × ((touched G t.moves v.key ≡ true) × BegunBy G s'.line t.name v))))
        on z = let r = like.on z.0 z.1.0 z.1.1.0 in (
          r.0,
          (
            r.1.0,
            (
              r.1.1.1,
              (
                sym r.1.1.0.end ∙ z.1.1.1.0,
                (
                  sym (twin_touched z.0 r.0 r.1.1.0 v.key) ∙ z.1.1.1.1.0,
                  subst (λ n. BegunBy G s'.line n v) r.1.1.0.name (begun_like z.0.name v z.1.1.1.1.1),
                ),
              ),
            ),
          ),
        )
    ends_like v end.Open h = tt

    shows_like : (R : ℕ) → Shows G vs s.line R → Shows G vs s'.line R
    shows_like R h = record {
      sound = λ p v a e. let r = h.sound p v a (sym (shown_like R v) ∙ e) in (r.0, (time_like (as_end v.begin) ∙ r.1.0, like.puts R v.key ∙ r.1.1));
      unique = λ p q v u a b k e f. h.unique p q v u a b k (sym (shown_like R v) ∙ e) (sym (shown_like R u) ∙ f);
      complete = λ k b x e. let r = h.complete k b x (sym (like.puts R k) ∙ e) in (r.0, (r.1.0, (r.1.1.0, (r.1.1.1.0, shown_like R r.1.0 ∙ r.1.1.1.1))));
    }

    own_twin : (t t' : Transaction G) → Twin t t' → Own G vs t → Own G vs t'
    own_twin t t' w h = record {
      sound = λ p v a e. ⊎_elim (λ q. inl (q ∙ ap end.Owner w.name)) (λ q. inr (q.0, sym (w.put v.key) ∙ q.1)) (h.sound p v a (e ∙ ap begin.Owner (sym w.name)));
      unique = λ p q v u a b k e f. h.unique p q v u a b k (e ∙ ap begin.Owner (sym w.name)) (f ∙ ap begin.Owner (sym w.name));
      complete = λ k x e. let r = h.complete k x (w.put k ∙ e) in (r.0, (r.1.0, (r.1.1.0, (r.1.1.1.0, (r.1.1.1.1.0 ∙ ap begin.Owner w.name, r.1.1.1.1.1)))));
    }

    marked_twin : (t t' : Transaction G) → Twin t t' → Marked G vs t → Marked G vs t'
    marked_twin t t' w h k e =
        let r = h k (twin_touched t t' w k ∙ e) in
        (r.0, (r.1.0, (r.1.1.0, (r.1.1.1.0, ⊎_elim (λ q. inl (q ∙ ap begin.Owner w.name)) (λ q. inr (q ∙ ap end.Owner w.name)) r.1.1.1.1))))

    late_like : (R : ℕ) → Late G s' there R → Late G s there R
    late_like R (inl h) = inl h
    late_like R (inr h) = inr (subst (λ c. c ≤ R) like.clock h)

    pub shelf_like : Shelf G vs there s → Shelf G vs there s'
    shelf_like h = record {
      begins = λ p v a. begins_like v v.begin (h.begins p v a);
      ends = λ p v a. ends_like v v.end (h.ends p v a);
      shows = λ R late. shows_like R (h.shows R (late_like R late));
      ended = λ t' i R p v le a e q. let r = like.back' t' i in
          h.ended r.0 r.1.0 R p v (subst (λ n. n ≤ R) (sym r.1.1.name) le) a (twin_touched r.0 t' r.1.1 v.key ∙ e) (sym (shown_like R v) ∙ q) ∙ ap end.Owner r.1.1.name;
      own = λ t' i. let r = like.back' t' i in own_twin r.0 t' r.1.1 (h.own r.0 r.1.0);
      marked = λ t' i. let r = like.back' t' i in marked_twin r.0 t' r.1.1 (h.marked r.0 r.1.0);
      marked' = λ t' i p. let r = like.back t' i in marked_twin r.0 t' r.1.1.0 (h.marked' r.0 r.1.0 (r.1.1.1 p));
    }

  twin_self : (t : Transaction G) → Twin t t
  twin_self t = record { name = refl; end = refl; put = λ k. refl }

  -- a move that puts nothing
  pub like_move : (s : State G) (n : ℕ) (m : G.Move) (W : List ℕ) → ((k : G.Key) → G.effect m k ≡ None) →
      Like s (record { clock = s.clock; active = change (moved G n m W) s.active; line = s.line })
  like_move s n m W none = record {
    clock = refl;
    ends = λ m. refl;
    puts = λ R k. refl;
    back = λ t i. (t, (i, (twin_self t, λ p. p)));
    on = λ t i c. (t, (i, (twin_self t, c)));
    back' = λ t' i. let r = In_changed (moved G n m W) t' s.active i in (r.0, (r.1.0, subst (Twin r.0) r.1.1 (twin r.0)));
  }
    where
      twin : (t : Transaction G) → Twin t (moved G n m W t)
      twin t = record { name = refl; end = refl; put = λ k. go k (eqb t.name n) }
        where
          go : (k : G.Key) (b : Bool) → last G t.moves k ≡ last G (cond b (m ∷ t.moves) t.moves) k
          go k true = sym (ap (λ o. either o (last G t.moves k)) (none k))
          go k false = refl

  -- stages change, and waits
  pub like_retag : (s : State G) (g : Transaction G → Stage) (w w' : Transaction G → List ℕ) →
      ((t : Transaction G) → In t s.line → pending (g t) ≡ true → pending t.stage ≡ true) → ((t : Transaction G) → In t s.line → t.stage ≡ committed → g t ≡ committed) →
      Like s (record { clock = s.clock; active = change (λ t. retag G t.stage (w' t) t) s.active; line = change (λ t. retag G (g t) (w t) t) s.line })
  like_retag s g w w' back on = record {
    clock = refl;
    ends = λ m. ending_retag G g w s.line m;
    puts = λ R k. ap (λ l. latest G l k) (upto_retag G g w R s.line) ∙ latest_retag G g w (upto G R s.line) k;
    back = λ t' i. let r = In_changed f t' s.line i in
        (r.0, (r.1.0, (subst (Twin r.0) r.1.1 (record { name = refl; end = refl; put = λ k. refl }), λ p. back r.0 r.1.0 (ap (λ v. pending v.stage) r.1.1 ∙ p))));
    on = λ t i c. (f t, (In_change f t s.line i, (record { name = refl; end = refl; put = λ k. refl }, on t i c)));
    back' = λ t' i. let r = In_changed f' t' s.active i in (r.0, (r.1.0, subst (Twin r.0) r.1.1 (record { name = refl; end = refl; put = λ k. refl })));
  }
    where
      f : Transaction G → Transaction G
      f t = retag G (g t) (w t) t

      f' : Transaction G → Transaction G
      f' t = retag G t.stage (w' t) t
