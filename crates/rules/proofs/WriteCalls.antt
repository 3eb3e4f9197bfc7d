-- Insert, update and delete leave a position good. Assumes nothing.
use Rattle.std.proofs.Common.{◌≡◌, ℕ, ◌≤◌, Bool, true, false, cond, ◌⊎◌, List, [], ◌++◌, length, take, set, Some, None, Ok, Option, Ordering, sym, refl, ap, ◌∙◌, subst, inl, inr, ⊎_elim, arith, length-set}
use Rattle.std.proofs.lemmas.Bool.{true≢false, cases_Bool, cases_eq, both_ways, false≢true, or_cases}
use Rattle.seeing.specs.declared.Begin.TheVariants as since
use Rattle.seeing.specs.declared.End.{End}
use Rattle.seeing.specs.declared.End.TheVariants as till
use Rattle.seeing.specs.declared.Version.{Version}
use Rattle.rules.specs.declared.Entry.{Entry}
use Rattle.rules.specs.declared.BookCall.{BookCall}
use Rattle.rules.specs.declared.BookCall.TheVariants as book
use Rattle.rules.specs.declared.Answer.TheVariants as answer
use Rattle.rules.specs.declared.Call.TheVariants as call
use Rattle.seeing.specs.declared.Transaction.{Transaction as Sitter}
use Rattle.rules.specs.Keys.{same, within}
use Rattle.keys.specs.Laws.{TotalOrder}
use Rattle.rules.specs.Tables.{entry, is_free, filled}
use Rattle.rules.specs.Lists.{any}
use Rattle.rules.specs.Index.{Index, put, covering}
use Rattle.index.specs.Listed.{with_pair}
use Rattle.seeing.specs.Slots.{Slots, find}
use Rattle.seeing.specs.Seeing.{as_end, visible}
use Rattle.rules.specs.Worlds.{World, with_slots}
use Rattle.seeing.specs.Changing.{new_version, with_end, with_value, made_by, too_new, not_writable}
use Rattle.rules.specs.Reaching.{Met, first_seen, waits_after}
use Rattle.rules.specs.Book.{by_value, Exchange}
use Rattle.rules.specs.Runs.{Position}
use Rattle.serial.specs.Lists.{In}
use Rattle.serial.specs.Machine.{Game, Transaction, State, view, below, touched, pending, Leads, moved, InTurn, MayMove, given}
use Rattle.serial.proofs.Views.{play_untouched}
use Rattle.rules.proofs.Game.{game, same_true, same_self, same_from, looks, puts, changes, RightCall}
use Rattle.rules.proofs.Times.{time, shown, last, Names}
use Rattle.rules.proofs.Relation.{stored, Own, Listed, Inv, Good}
use Rattle.rules.proofs.Slots.{some_injective, some_none}
use Rattle.rules.proofs.Lines.{some_touched}
use Rattle.rules.proofs.Reach.{entry_set_other, entry_set_same, entry_set_free, first_none, Meets, one_within, within_one, waits_of}
use Rattle.rules.proofs.Calls.{after}
use Rattle.rules.proofs.Writes.{Changed, Image, shelf_write}
use Rattle.rules.proofs.Prepare.{names_begin, names_owner}
use Rattle.rules.proofs.Sees.{Look, looks_back, there_self, self_hidden}
use Rattle.rules.proofs.Meeting.{met_in, met_on, waits_pending, waits_mind, telling, seen_none, seen_some, any_none}
use Rattle.rules.proofs.Tables.{listed_set, listed_add, put_new}
use Rattle.rules.proofs.Guarding.{turn_again, alone_again, closing_insert, turn_insert, alone_insert, nobody_ends, no_end, begun_then, closing_one, turn_one, alone_one}
use Rattle.rules.proofs.Changes.{image_self, image_set, image_add, guards_write}
use Rattle.rules.proofs.Owns.{NoneOpen, same_skip, own_add, own_none, own_at}
use Rattle.rules.proofs.Moved.{moved_good}
use Rattle.rules.specs.declared.Answer.{Answer}
use Rattle.rules.specs.Slots.{change, answered}
use Rattle.rules.specs.Checks.{Checked}
use Rattle.serial.proofs.Kill.{All_in}
use Rattle.rules.proofs.Marks.{waits_marked}

module _ {K : Type 0} (V : Type 0) (order : K → K → Ordering) (total : TotalOrder order) where
  pub key_dec : (a b : K) → (a ≡ b) ⊎ (a ≡ b → ⊥)
  key_dec a b = ⊎_elim (λ e. inl (same_true order total a b e)) (λ e. inr (λ q. both_ways _ e (same_from order total a b q))) (cases_Bool (same order a b))

  apart_same : (k j : K) → (j ≡ k → ⊥) → same order k j ≡ false
  apart_same k j d = ⊎_elim (λ e. absurd (d (sym (same_true order total k j e)))) (λ e. e) (cases_Bool (same order k j))

  module _ (p : Position K V) (s : State (game V order total)) (inv : Inv V order total p s) (k : K) (met : List (Met K V)) (m : Meets order total p.world.versions (covering order p.world.index k k) met)
      (t : Transaction (game V order total)) (i : In t s.active) (u : Sitter) (found : find p.world.store.slots t.name ≡ Some u) where
    abbrev G : Game
    G = game V order total

    abbrev vs : List (Entry (Version K V))
    vs = p.world.versions

    abbrev ts : Slots
    ts = p.world.store.slots

    abbrev W : List ℕ
    W = waits_of p.world t.name t.name met

    -- the marks of those that t waits on now
    abbrev ws : List Bool
    ws = waits_after ts t.name t.name met u.waits

    -- the move that a write is, and the world that it leaves
    abbrev deed : BookCall K V → Exchange K V
    deed b = record { call = b; answer = Ok answer.Done; rows = take 0 p.world.rows }

    abbrev pub done : List (Entry (Version K V)) → Index K → World K V × Checked (Answer V)
    done vs' ix = (record { store = with_slots p.world.store (change t.name (answered u.made ws) ts); versions = vs'; notes = p.world.notes; rows = p.world.rows; index = ix }, Ok answer.Done)

    inside : within order k k k ≡ true
    inside = one_within order total k k refl

    pub at_key : (q : ℕ) (v : Version K V) → In (q, v) met → (entry vs q ≡ Some v) × (v.key ≡ k)
    at_key q v j = let z = met_in order total p.world k k met m inv.listed q v j in (z.0, sym (within_one order total k v.key z.1))

    on_key : (q : ℕ) (v : Version K V) → entry vs q ≡ Some v → v.key ≡ k → In (q, v) met
    on_key q v a e = met_on order total p.world k k met m inv.listed q v a (ap (within order k k) e ∙ inside)

    minds : (x : Transaction G) → In x (below G t.name s.line) → pending x.stage ≡ true → touched G x.moves k ≡ true → Leads G s.line (W ++ t.waits) x.name
    minds x j q e = waits_mind order total p.world k k met m inv.listed s inv.way inv.roll inv.shelf t i k inside x j q e

    module _ (b : BookCall K V) (o : Option V) (hit : puts order b k ≡ Some o) (miss : (j : K) → (j ≡ k → ⊥) → puts order b j ≡ None) (cov : (j : K) → looks order b j ≡ true → j ≡ k)
        (right : RightCall order b (Ok answer.Done) [] (telling order total p.world k k met m inv.listed s inv.way inv.roll inv.shelf t i))
        (turn : InTurn G t.name s.line k) (alone : (x : Transaction G) → In x s.active → touched G x.moves k ≡ true → x.name ≡ t.name) where
      -- a write done, from what it makes of the table
      good : (vs' : List (Entry (Version K V))) (ix : Index K) → length vs' ≡ length vs → ix.capacity ≡ p.world.index.capacity → Listed order vs' ix.pairs →
          Image G s t.name k vs vs' → ((R q : ℕ) (v : Version K V) → t.name ≤ R → entry vs' q ≡ Some v → v.key ≡ k → shown G s.line R v ≡ true → v.end ≡ till.Owner t.name) →
          Own G vs' (moved G t.name (deed b) W t) →
          (q : ℕ) × ((v : Version K V) × ((entry vs' q ≡ Some v) × ((v.key ≡ k) × Names G t.name v))) →
          Good V order total (after V order total p (call.Book t.name b) (done vs' ix))
      good vs' ix long room listed image closing mine mark = (
        _,
        moved_good V order total p s inv t.name (deed b) W u.made ws t i refl u found (waits_marked ts t.name t.name met u.waits) may vs' p.world.notes p.world.rows ix long refl room
            (shelf_write G vs vs' (stored ts) s inv.way inv.shelf t.name k (deed b) W o hit t i refl image
            (there_self G vs ts s inv.way inv.roll inv.shelf t i) alone closing mine mark miss key_dec)
            listed
            (guards_write V order total p.world.notes vs vs' (stored ts) s inv.way inv.shelf t.name k (deed b) W o hit t i refl image cov inv.guards),
      )
        where
          only : (j : K) → given (puts order b j) ≡ true → j ≡ k
          only j e = cov j (changes order total (deed b) j e)

          may : MayMove G s.active s.line (deed b) W t
          may = record {
            turn = λ j e. subst (InTurn G t.name s.line) (sym (only j e)) turn;
            alone = λ j e. All_in _ s.active (λ x l f. alone x l (subst (λ y. touched G x.moves y ≡ true) (only j e) f));
            answer = right;
            known = waits_pending order total p.world k k met m inv.listed s inv.way inv.roll inv.shelf t i;
            minds = All_in _ (below G t.name s.line) (λ x l q j c f.
                ⊎_elim (λ y. minds x l q (subst (λ z. touched G x.moves z ≡ true) (cov j y) f)) (λ y. absurd (false≢true y)) (or_cases (looks order b j) false c));
          }

    abbrev know : K → Option V
    know = telling order total p.world k k met m inv.listed s inv.way inv.roll inv.shelf t i

    one_cov : (j : K) → same order k j ≡ true → j ≡ k
    one_cov j e = sym (same_true order total k j e)

    -- the new version at a free place
    module _ (q : ℕ) (vs₁ : List (Entry (Version K V))) (listed₁ : Listed order vs₁ p.world.index.pairs) (free : is_free vs₁ q ≡ true) (x : V) where
      ix_new : put order p.world.index k q ≡ record { pairs = with_pair order (k, q) p.world.index.pairs; capacity = p.world.index.capacity }
      ix_new = put_new order total vs₁ p.world.index listed₁ q free (new_version t.name k x) k

      listed_new : Listed order (set vs₁ q (filled (new_version t.name k x))) (put order p.world.index k q).pairs
      listed_new = subst (λ j. Listed order (set vs₁ q (filled (new_version t.name k x))) j.pairs) (sym ix_new) (listed_add order total vs₁ p.world.index listed₁ q free (new_version t.name k x))

      room_new : (put order p.world.index k q).capacity ≡ p.world.index.capacity
      room_new = ap (λ j. j.capacity) ix_new

    -- Insert.
    module _ (x : V) (q : ℕ) (free : is_free vs q ≡ true) (none : first_seen p.world.store.slots t.name met ≡ None)
        (old : any (λ y. too_new ts t.name y.1.begin y.1.end) met ≡ false) where
      unseen : (r : ℕ) (v : Version K V) → In (r, v) met → visible ts t.name t.name v ≡ false
      unseen r v j = first_none (λ y. visible ts t.name t.name y.1) met none (r, v) j

      none_look : (r : ℕ) (v : Version K V) → entry vs r ≡ Some v → v.key ≡ k → Look G vs ts s inv.way inv.roll inv.shelf t i v → ⊥
      none_look r v a e l = both_ways _ (unseen r v (on_key r v a e)) (looks_back G vs ts s inv.way inv.roll inv.shelf t i r v a l)

      old_at : (r : ℕ) (v : Version K V) → entry vs r ≡ Some v → v.key ≡ k → too_new ts t.name v.begin v.end ≡ false
      old_at r v a e = any_none (λ y. too_new ts t.name y.1.begin y.1.end) met old (r, v) (on_key r v a e)

      know_none : know k ≡ None
      know_none = seen_none order total p.world k k met m inv.listed s inv.way inv.roll inv.shelf t i k inside (λ r v j e. unseen r v j)

      none_open : NoneOpen G k (deed (book.Insert k x)) W (Some x) (ap (λ c. cond c (Some (Some x)) None) (same_self order total k)) (λ j d. ap (λ c. cond c (Some (Some x)) None) (apart_same k j d)) key_dec t vs (inv.shelf.own t i)
      none_open r v a b c e = ⊎_elim (λ z. clash v e z) (λ z. none_look r v a c (inl (b, (e, z.1)))) ((inv.shelf.own t i).sound r v a b)
        where
          clash : (v : Version K V) → v.end ≡ till.Open → v.end ≡ till.Owner t.name → ⊥
          clash v a b = let z : ◌≡◌ {A = ℕ} 0 1 = cc in omega arith

      pub insert_good : Good V order total (after V order total p (call.Book t.name (book.Insert k x)) (done (set vs q (filled (new_version t.name k x))) (put order p.world.index k q)))
      insert_good = good (book.Insert k x) (Some x) (ap (λ c. cond c (Some (Some x)) None) (same_self order total k)) (λ j d. ap (λ c. cond c (Some (Some x)) None) (apart_same k j d)) one_cov
          (ap (λ o. Ok (by_value answer.Present answer.Done o)) (sym know_none), refl)
          (turn_insert G vs ts s inv.way inv.roll inv.shelf t i k none_look old_at (λ f. sym (play_untouched G (view G (below G t.name s.line)) t.moves k f) ∙ know_none))
          (alone_insert G vs ts s inv.way inv.roll inv.shelf t i k none_look old_at)
          (set vs q (filled new)) (put order p.world.index k q) (length-set vs q (filled new)) (room_new q vs inv.listed free x) (listed_new q vs inv.listed free x)
          (image_add G s t.name k vs vs q new (image_self G s t.name k vs) free (record { key = refl; begin = refl; end = refl }))
          closing
          (own_add G k (deed (book.Insert k x)) W (Some x) (ap (λ c. cond c (Some (Some x)) None) (same_self order total k)) (λ j d. ap (λ c. cond c (Some (Some x)) None) (apart_same k j d)) key_dec t vs (inv.shelf.own t i)
          vs (λ r v b. (λ a. a, λ a. a)) none_open q free new refl refl refl refl)
          (q, (new, (entry_set_free vs q (filled new) free, (refl, inl refl))))
        where
          new : Version K V
          new = new_version t.name k x

          closing : (R r : ℕ) (v : Version K V) → t.name ≤ R → entry (set vs q (filled (new_version t.name k x))) r ≡ Some v → v.key ≡ k → shown G s.line R v ≡ true → v.end ≡ till.Owner t.name
          closing R r v le a e f = ⊎_elim
              (λ z. absurd (self_hidden G vs ts s inv.way inv.roll inv.shelf t i R v
              (ap (λ y. y.begin) (some_injective (sym a ∙ ap (entry (set vs q (filled (new_version t.name k x)))) z ∙ entry_set_free vs q (filled (new_version t.name k x)) free))) f))
              (λ z. closing_insert G vs ts s inv.way inv.roll inv.shelf t i k none_look old_at R r v le (sym (entry_set_other vs q r (filled (new_version t.name k x)) z) ∙ a) e f) (cases_eq r q)

    -- The version seen is another's, and is to be ended.
    module _ (r : ℕ) (v : Version K V) (met_it : In (r, v) met) (vis : visible ts t.name t.name v ≡ true) where
      a : entry vs r ≡ Some v
      a = (at_key r v met_it).0

      e : v.key ≡ k
      e = (at_key r v met_it).1

      look : Look G vs ts s inv.way inv.roll inv.shelf t i v
      look = (seen_some order total p.world k k met m inv.listed s inv.way inv.roll inv.shelf t i r v met_it vis).0

      know_some : know k ≡ Some v.value
      know_some = ap know (sym e) ∙ (seen_some order total p.world k k met m inv.listed s inv.way inv.roll inv.shelf t i r v met_it vis).1

      abbrev closed : Version K V
      closed = with_end (till.Owner t.name) v

      abbrev vs_closed : List (Entry (Version K V))
      vs_closed = set vs r (filled (with_end (till.Owner t.name) v))

      listed_closed : Listed order vs_closed p.world.index.pairs
      listed_closed = listed_set order total vs p.world.index inv.listed r v closed a refl

      module _ (foreign : made_by t.name v ≡ false) (writable : not_writable ts v.end ≡ false) where
        others : (v.begin ≡ since.Owner t.name → ⊥) × ((touched G t.moves v.key ≡ false) × (shown G s.line t.name v ≡ true))
        others = ⊎_elim (λ z. absurd (true≢false (sym (ap (λ y. Rattle.seeing.specs.Changing.names t.name (as_end y)) z.0 ∙ names_owner t.name) ∙ foreign))) (λ z. z) look

        free_key : touched G t.moves k ≡ false
        free_key = ap (touched G t.moves) (sym e) ∙ others.1.0

        turn' : InTurn G t.name s.line k
        turn' = turn_one G vs ts s inv.way inv.roll inv.shelf t i k r v a e free_key others.1.1 writable

        alone' : (y : Transaction G) → In y s.active → touched G y.moves k ≡ true → y.name ≡ t.name
        alone' = alone_one G vs ts s inv.way inv.roll inv.shelf t i k r v a e free_key others.1.1 writable

        changed : Changed G s t.name k v closed
        changed = record {
          key = refl;
          begin = refl;
          end = inr (
            refl,
            (
              e,
              (
                no_end G vs ts s inv.way inv.roll inv.shelf t i k r v a e free_key others.1.1 writable,
                (nobody_ends G vs ts s inv.way inv.roll inv.shelf t i k r v a e free_key others.1.1 writable, inr (begun_then G vs ts s inv.way inv.roll inv.shelf t i k r v a e free_key others.1.1 writable)),
              ),
            ),
          );
          value = inl refl;
        }

        image₁ : Image G s t.name k vs vs_closed
        image₁ = image_set G s t.name k vs r v closed a changed

        closing₁ : (R q : ℕ) (y : Version K V) → t.name ≤ R → entry vs_closed q ≡ Some y → y.key ≡ k → shown G s.line R y ≡ true → y.end ≡ till.Owner t.name
        closing₁ R q y le b c f = ⊎_elim
            (λ z. ap (λ w. w.end) (some_injective (sym b ∙ ap (entry vs_closed) z ∙ entry_set_same vs r (filled closed) v a)))
            (λ z. absurd (z (closing_one G vs ts s inv.way inv.roll inv.shelf t i k r v a e free_key others.1.1 writable R q y le (sym (entry_set_other vs r q (filled closed) z) ∙ b) c f))) (cases_eq q r)

        none_own : (q : ℕ) (y : Version K V) → entry vs q ≡ Some y → y.begin ≡ since.Owner t.name → y.key ≡ k → y.end ≡ till.Open → ⊥
        none_own q y b c d f = ⊎_elim (λ z. clash y f z) (λ z. both_ways _ free_key (ap (touched G t.moves) (sym d) ∙ some_touched G t.moves y.key _ z.1)) ((inv.shelf.own t i).sound q y b c)
          where
            clash : (v : Version K V) → v.end ≡ till.Open → v.end ≡ till.Owner t.name → ⊥
            clash v a b = let z : ◌≡◌ {A = ℕ} 0 1 = cc in omega arith

        -- Delete of another's.
        pub delete_good : Good V order total (after V order total p (call.Book t.name (book.Delete k)) (done vs_closed p.world.index))
        delete_good = good (book.Delete k) None (ap (λ c. cond c (Some None) None) (same_self order total k)) (λ j d. ap (λ c. cond c (Some None) None) (apart_same k j d)) one_cov
            (ap (λ o. Ok (by_value answer.Done answer.Absent o)) (sym know_some), refl) turn' alone'
            vs_closed p.world.index (length-set vs r (filled closed)) refl listed_closed image₁ closing₁
            (own_none G k (deed (book.Delete k)) W None (ap (λ c. cond c (Some None) None) (same_self order total k)) (λ j d. ap (λ c. cond c (Some None) None) (apart_same k j d)) key_dec t vs (inv.shelf.own t i)
            vs_closed (same_skip G k (deed (book.Delete k)) W None (ap (λ c. cond c (Some None) None) (same_self order total k)) (λ j d. ap (λ c. cond c (Some None) None) (apart_same k j d)) key_dec t vs (inv.shelf.own t i) r v closed a others.0 refl) none_own refl)
            (r, (closed, (entry_set_same vs r (filled closed) v a, (e, inr refl))))

        -- Update of another's.
        module _ (x : V) (q : ℕ) (free : is_free vs_closed q ≡ true) where
          pub update_good : Good V order total (after V order total p (call.Book t.name (book.Update k x)) (done (set vs_closed q (filled (new_version t.name k x))) (put order p.world.index k q)))
          update_good = good (book.Update k x) (Some x) (ap (λ c. cond c (Some (Some x)) None) (same_self order total k)) (λ j d. ap (λ c. cond c (Some (Some x)) None) (apart_same k j d)) one_cov
              (ap (λ o. Ok (by_value answer.Done answer.Absent o)) (sym know_some), refl) turn' alone'
              (set vs_closed q (filled new)) (put order p.world.index k q) (length-set vs_closed q (filled new) ∙ length-set vs r (filled closed)) (room_new q vs_closed listed_closed free x) (listed_new q vs_closed listed_closed free x)
              (image_add G s t.name k vs vs_closed q new image₁ free (record { key = refl; begin = refl; end = refl }))
              closing
              (own_add G k (deed (book.Update k x)) W (Some x) (ap (λ c. cond c (Some (Some x)) None) (same_self order total k)) (λ j d. ap (λ c. cond c (Some (Some x)) None) (apart_same k j d)) key_dec t vs (inv.shelf.own t i)
              vs_closed (same_skip G k (deed (book.Update k x)) W (Some x) (ap (λ c. cond c (Some (Some x)) None) (same_self order total k)) (λ j d. ap (λ c. cond c (Some (Some x)) None) (apart_same k j d)) key_dec t vs (inv.shelf.own t i) r v closed a others.0 refl) none_own q free new refl refl refl refl)
              (q, (new, (entry_set_free vs_closed q (filled new) free, (refl, inl refl))))
            where
              new : Version K V
              new = new_version t.name k x

              closing : (R y : ℕ) (w : Version K V) → t.name ≤ R → entry (set vs_closed q (filled (new_version t.name k x))) y ≡ Some w → w.key ≡ k → shown G s.line R w ≡ true → w.end ≡ till.Owner t.name
              closing R y w le b c f = ⊎_elim
                  (λ z. absurd (self_hidden G vs ts s inv.way inv.roll inv.shelf t i R w
                  (ap (λ y. y.begin) (some_injective (sym b ∙ ap (entry (set vs_closed q (filled (new_version t.name k x)))) z ∙ entry_set_free vs_closed q (filled (new_version t.name k x)) free))) f))
                  (λ z. closing₁ R y w le (sym (entry_set_other vs_closed q y (filled (new_version t.name k x)) z) ∙ b) c f) (cases_eq y q)

      -- The version seen is t's own.
      module _ (own : made_by t.name v ≡ true) where
        mine : (v.begin ≡ since.Owner t.name) × ((v.end ≡ till.Open) × (last G t.moves v.key ≡ Some (Some v.value)))
        mine = ⊎_elim (λ z. z) (λ z. absurd (z.0 (names_begin t.name v.begin own))) look

        touch : touched G t.moves k ≡ true
        touch = ap (touched G t.moves) (sym e) ∙ some_touched G t.moves v.key _ mine.1.1

        closing₂ : (v' : Version K V) → v'.begin ≡ v.begin → (R q : ℕ) (y : Version K V) → t.name ≤ R → entry (set vs r (filled v')) q ≡ Some y → y.key ≡ k → shown G s.line R y ≡ true → y.end ≡ till.Owner t.name
        closing₂ v' g R q y le b c f = ⊎_elim
            (λ z. absurd (self_hidden G vs ts s inv.way inv.roll inv.shelf t i R y (ap (λ w. w.begin) (some_injective (sym b ∙ ap (entry (set vs r (filled v'))) z ∙ entry_set_same vs r (filled v') v a)) ∙ g ∙ mine.0) f))
            (λ z. inv.shelf.ended t i R q y le (sym (entry_set_other vs r q (filled v') z) ∙ b) (ap (touched G t.moves) c ∙ touch) f) (cases_eq q r)

        -- Delete of one's own.
        pub delete_own_good : Good V order total (after V order total p (call.Book t.name (book.Delete k)) (done vs_closed p.world.index))
        delete_own_good = good (book.Delete k) None (ap (λ c. cond c (Some None) None) (same_self order total k)) (λ j d. ap (λ c. cond c (Some None) None) (apart_same k j d)) one_cov
            (ap (λ o. Ok (by_value answer.Done answer.Absent o)) (sym know_some), refl)
            (turn_again G vs ts s inv.way inv.roll inv.shelf t i k touch) (alone_again G vs ts s inv.way inv.roll inv.shelf t i k touch)
            vs_closed p.world.index (length-set vs r (filled closed)) refl listed_closed
            (image_set G s t.name k vs r v closed a (record {
              key = refl;
              begin = refl;
              end = inr (refl, (e, (ap (time G s.line) mine.1.0, (λ y j z. clash v.end y.name mine.1.0 z, inl mine.0))));
              value = inl refl;
            }))
            (closing₂ closed refl)
            (own_at G k (deed (book.Delete k)) W None (ap (λ c. cond c (Some None) None) (same_self order total k)) (λ j d. ap (λ c. cond c (Some None) None) (apart_same k j d)) key_dec t vs (inv.shelf.own t i)
            r v closed a e mine.0 mine.1.0 refl refl (inl refl) (λ x z. absurd (some_none (sym z))))
            (r, (closed, (entry_set_same vs r (filled closed) v a, (e, inr refl))))
          where
            clash : (x : End) (y : ℕ) → x ≡ till.Open → x ≡ till.Owner y → ⊥
            clash x y a b = let z : ◌≡◌ {A = ℕ} 0 1 = cc in omega arith

        -- Update of one's own.
        pub update_own_good : (x : V) → Good V order total (after V order total p (call.Book t.name (book.Update k x)) (done (set vs r (filled (with_value x v))) p.world.index))
        update_own_good x = good (book.Update k x) (Some x) (ap (λ c. cond c (Some (Some x)) None) (same_self order total k)) (λ j d. ap (λ c. cond c (Some (Some x)) None) (apart_same k j d)) one_cov
            (ap (λ o. Ok (by_value answer.Done answer.Absent o)) (sym know_some), refl)
            (turn_again G vs ts s inv.way inv.roll inv.shelf t i k touch) (alone_again G vs ts s inv.way inv.roll inv.shelf t i k touch)
            (set vs r (filled (with_value x v))) p.world.index (length-set vs r (filled (with_value x v))) refl (listed_set order total vs p.world.index inv.listed r v (with_value x v) a refl)
            (image_set G s t.name k vs r v (with_value x v) a (record { key = refl; begin = refl; end = inl refl; value = inr (mine.0, e) }))
            (closing₂ (with_value x v) refl)
            (own_at G k (deed (book.Update k x)) W (Some x) (ap (λ c. cond c (Some (Some x)) None) (same_self order total k)) (λ j d. ap (λ c. cond c (Some (Some x)) None) (apart_same k j d)) key_dec t vs (inv.shelf.own t i)
            r v (with_value x v) a e mine.0 mine.1.0 refl refl (inr (mine.1.0, refl)) (λ y z. mine.1.0))
            (r, (with_value x v, (entry_set_same vs r (filled (with_value x v)) v a, (e, inl mine.0))))
