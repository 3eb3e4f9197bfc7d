-- A call that changes no row and is answered leaves a position good. Assumes nothing.
use Rattle.std.proofs.Common.{◌≡◌, ℕ, true, false, cond, List, length, take, set, Some, None, Ok, Option, Ordering, sym, refl, ap, ◌∙◌, subst, inl, inr, length-set}
use Rattle.std.proofs.lemmas.Bool.{true≢false, not-false}
use Rattle.std.specs.Option.{option_to_list}
use Rattle.seeing.specs.declared.Transaction.{Transaction as Sitter}
use Rattle.seeing.specs.declared.Version.{Version}
use Rattle.seeing.specs.Phases.{is_serializable}
use Rattle.seeing.specs.Slots.{Slots, find}
use Rattle.seeing.specs.Seeing.{waits_for}
use Rattle.rules.specs.declared.Entry.{Entry}
use Rattle.rules.specs.declared.Noted.{Noted}
use Rattle.rules.specs.declared.Noted.TheVariants as noted
use Rattle.rules.specs.declared.Note.{Note}
use Rattle.rules.specs.declared.Row.{Row}
use Rattle.rules.specs.declared.BookCall.{BookCall}
use Rattle.rules.specs.declared.Answer.{Answer}
use Rattle.rules.specs.declared.Call.TheVariants as call
use Rattle.keys.specs.Laws.{TotalOrder}
use Rattle.rules.specs.Keys.{within}
use Rattle.rules.specs.Tables.{entry, any_free, is_free, filled}
use Rattle.rules.specs.Index.{covering}
use Rattle.rules.specs.Worlds.{World, Choice, Allowed, with_rows}
use Rattle.rules.specs.Reaching.{Met, waits_after}
use Rattle.rules.specs.BookRules.{noting, conclude}
use Rattle.rules.specs.Book.{is_done}
use Rattle.rules.specs.Runs.{Position, number_in}
use Rattle.serial.specs.Lists.{In}
use Rattle.serial.specs.Machine.{Transaction, State, view, below, play, touched}
use Rattle.rules.proofs.Game.{game, looks, puts, RightCall}
use Rattle.rules.proofs.Relation.{HasNote, Guarded, Inv, Good}
use Rattle.rules.proofs.Slots.{some_injective, some_none}
use Rattle.rules.proofs.Marks.{waits_marked}
use Rattle.rules.proofs.Checks.{T_true, true_T, Comes, comes, bind, unless, either}
use Rattle.rules.proofs.Reach.{entry_set_free, entry_set_used, In_concat, concat_In, Meets, met_all, waits_of}
use Rattle.rules.proofs.Calls.{after}
use Rattle.rules.proofs.Moves.{look_good}

module _ {K : Type 0} (V : Type 0) (order : K → K → Ordering) (total : TotalOrder order) (p : Position K V) (s : State (game V order total)) (inv : Inv V order total p s) (c : Choice) (ok : Allowed c p.world) where
  abbrev w : World K V
  w = p.world

  abbrev ts : Slots
  ts = p.world.store.slots

  -- a call by n on the keys from lower to upper, whose versions are met
  module _ (n : ℕ) (u : Sitter) (found : find ts n ≡ Some u) (t : Transaction (game V order total)) (i : In t s.active) (q : t.name ≡ n)
      (lower upper : K) (met : List (Met K V)) (m : Meets order total w.versions (covering order w.index lower upper) met) where
    -- the notes after the call
    pub record Noting (what : Option (Noted K)) (ns : List (Entry (Note K))) : Type 0 where
      pub many : length ns ≡ length w.notes
      pub kept : (l : ℕ) (x : Noted K) → HasNote w.notes l x → HasNote ns l x
      pub made : (x : Noted K) → what ≡ Some x → t.ser ≡ true → HasNote ns t.name x

    level : is_serializable u.level ≡ t.ser
    level = let z = inv.roll.at_work t i in subst (λ v. is_serializable v.level ≡ t.ser) (some_injective (sym z.1.1.0 ∙ ap (find ts) q ∙ found)) z.1.1.1.level

    noting_is : (what : Option (Noted K)) → Comes (λ y. Noting what y.1) (noting c.note n u what w.notes)
    noting_is None = comes (record { many = refl; kept = λ l x h. h; made = λ x e. absurd (some_none (sym e)) })
    noting_is (Some what) = either _ (λ ser. unless _ _ refl (λ e. comes (written (not-false _ e)))) (λ not_ser. comes (record { many = refl; kept = λ l x h. h; made = λ x e ser. absurd (true≢false (sym ser ∙ sym level ∙ not_ser)) }))
      where
        written : any_free w.notes ≡ true → Noting (Some what) (set w.notes c.note (filled (record { owner = n; number = u.made; noted = what })))
        written free = record {
          many = length-set w.notes c.note _;
          kept = λ l x h. (h.0, (h.1.0, entry_set_used w.notes c.note h.0 _ _ place h.1.1));
          made = λ x e ser. (c.note, (u.made, entry_set_free w.notes c.note _ place ∙ (λ j. Some (record { owner = sym q j; number = u.made; noted = some_injective e j }))));
        }
          where
            place : is_free w.notes c.note ≡ true
            place = T_true _ (ok.note (true_T _ free))

    tests : (j : K) → within order lower upper j ≡ true → (p : ℕ) (v : Version K V) → entry w.versions p ≡ Some v → v.key ≡ j → (y : ℕ) → In y (option_to_list (waits_for ts t.name t.name v)) → In y (waits_of w n n met)
    tests j e p v a z y b =
        In_concat (λ x. option_to_list (waits_for ts n n x.1)) y (p, v) met (met_all order total w inv.listed lower upper met m p v a (ap (within order lower upper) z ∙ e)) (subst (λ x. In y (option_to_list (waits_for ts x x v))) q b)

    calls : (y : ℕ) → In y (waits_of w n n met) → (v : Version K V) × In y (option_to_list (waits_for ts t.name t.name v))
    calls y b = let z = concat_In (λ (x : Met K V). option_to_list (waits_for ts n n x.1)) y met b in (z.0.1, subst (λ x. In y (option_to_list (waits_for ts x x z.0.1))) (sym q) z.1.1)

    -- an answer other than "done", right of what t has; each key looked at and not changed is guarded by the notes
    pub concluded : (b : BookCall K V) (a : Answer V) (table : List (Row K V)) (what : Option (Noted K)) → is_done (Ok a) ≡ false →
        ((j : K) → looks order b j ≡ true → within order lower upper j ≡ true) →
        RightCall order b (Ok a) (take (number_in (Ok a)) table) (play (game V order total) (view (game V order total) (below (game V order total) t.name s.line)) t.moves) →
        ((ns : List (Entry (Note K))) → Noting what ns → t.ser ≡ true → (j : K) → looks order b j ≡ true → touched (game V order total) t.moves j ≡ false → Guarded V order total ns w.versions s.line t.name j) →
        Comes (λ r. Good V order total (after V order total p (call.Book n b) r)) (conclude c (with_rows w table) n u what (waits_after ts n n met u.waits) a)
    concluded b a table what not_done at right guard = bind (noting_is what) (λ y h. comes (
      _,
      look_good V order total p s inv y.1 y.0 (waits_after ts n n met u.waits) n u found t i q
          (record { call = b; answer = Ok a; rows = take (number_in (Ok a)) table }) (λ j. ap (λ z. cond z (puts order b j) None) not_done)
          (waits_of w n n met) (waits_marked ts n n met u.waits) (λ j e. tests j (at j e)) calls right
          (record {
            at_work = λ x j ser k cv f. keeps y.1 h.kept x.name k (inv.guards.at_work x j ser k cv f);
            preparing = λ x j st ser k cv f. keeps y.1 h.kept x.name k (inv.guards.preparing x j st ser k cv f);
          })
          (guard y.1 h) table h.many,
    ))
      where
        keeps : (ns : List (Entry (Note K))) → ((l : ℕ) (x : Noted K) → HasNote w.notes l x → HasNote ns l x) → (l : ℕ) (j : K) → Guarded V order total w.notes w.versions s.line l j → Guarded V order total ns w.versions s.line l j
        keeps ns kept l j (inl g) = inl (g.0, (g.1.0, (g.1.1.0, kept l (noted.Range g.0 g.1.0) g.1.1.1)))
        keeps ns kept l j (inr g) = inr (g.0, (g.1.0, (kept l (noted.Version j g.0) g.1.1.0, g.1.1.1)))
