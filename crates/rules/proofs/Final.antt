-- The run law: every call leaves positions good, and good positions are lawful. Assumes nothing.
use Rattle.std.proofs.Common.{◌≡◌, ℕ, zero, suc, Bool, true, cond, ◌&&◌, T, eqb, List, [], ◌∷◌, ◌++◌, length, replicate, Some, None, Err, Ordering, sym, refl, ap, ◌∙◌, subst, ⊎_elim}
use lib.ListN.{length-replicate}
use Rattle.std.proofs.lemmas.Bool.{false≢true, not-false, and_from, eq-eqb}
use Rattle.rules.specs.declared.Entry.{Entry}
use Rattle.rules.specs.declared.BookCall.TheVariants as book
use Rattle.rules.specs.declared.Call.{Call}
use Rattle.rules.specs.declared.Call.TheVariants as call
use Rattle.rules.specs.declared.Refusal.{Refusal}
use Rattle.seeing.specs.declared.Version.{Version}
use Rattle.rules.specs.declared.Note.{Note}
use Rattle.rules.specs.declared.Row.{Row}
use Rattle.seeing.specs.declared.Transaction.{Transaction as Sitter}
use Rattle.keys.specs.Laws.{TotalOrder}
use Rattle.rules.specs.Tables.{entry, emptied}
use Rattle.seeing.specs.Slots.{find}
use Rattle.rules.specs.Worlds.{World, Choice, Allowed}
use Rattle.rules.specs.Checks.{Outcome, or_as_found, allowed}
use Rattle.rules.specs.Rules.{outcome}
use Rattle.rules.specs.TableRules.{open_rule}
use Rattle.rules.specs.Book.{is_done}
use Rattle.rules.specs.Runs as runs
use Rattle.rules.specs.Runs.{Position, told, event_of, Event, lend, History, Run, opened, called}
use Rattle.rules.specs.Law.{Lawful, SerialLaw}
use Rattle.serial.specs.Machine.{State, start}
use Rattle.rules.proofs.Game.{game}
use Rattle.rules.proofs.Relation.{Inv, Good}
use Rattle.rules.proofs.Slots.{some_none}
use Rattle.rules.proofs.Checks.{Comes, comes, refused, unless, harmless}
use Rattle.rules.proofs.Calls.{after, begin_keeps, prepare_keeps, tally_keeps}
use Rattle.rules.proofs.Kills.{abort_keeps}
use Rattle.rules.proofs.Sweeps.{sweep_keeps}
use Rattle.rules.proofs.Finishes.{finish_keeps}
use Rattle.rules.proofs.Commits.{commit_keeps}
use Rattle.rules.proofs.Reading.{read_keeps}
use Rattle.rules.proofs.Scanning.{scan_keeps}
use Rattle.rules.proofs.Writing.{insert_keeps, update_keeps, delete_keeps}
use Rattle.rules.proofs.Validates.{validate_keeps}
use Rattle.rules.proofs.Answers.{told_in_turn, one_moment}
use Rattle.rules.proofs.Standing.{standing_is}
use Rattle.rules.proofs.Firsts.{first_commits}

module _ {K : Type 0} (V : Type 0) (order : K → K → Ordering) (total : TotalOrder order) where
  pub lawful : (p : Position K V) → Good V order total p → Lawful order p
  lawful p g = ((told_in_turn V order total p g.0 g.1, standing_is V order total p g.0 g.1), one_moment V order total p g.0 g.1, first_commits V order total p g.0 g.1)

  none_there : {A : Type 0} (n q : ℕ) → entry {A = A} (replicate n emptied) q ≡ None
  none_there zero q = refl
  none_there (suc n) zero = refl
  none_there (suc n) (suc q) = none_there n q

  no_entry : {A : Type 0} (n q : ℕ) (v : A) → entry (replicate n emptied) q ≡ Some v → ⊥
  no_entry n q v e = some_none (sym e ∙ none_there n q)

  nobody_there : (n m : ℕ) → find (replicate n None) m ≡ None
  nobody_there zero m = refl
  nobody_there (suc n) m = nobody_there n m

  -- an accepted open, of any world
  pub open_keeps : (w : World K V) (h : History K V) (stamp : ℕ) → Comes (λ r. Good V order total (after V order total (record { world = w; history = h }) (call.Open stamp) r)) (open_rule order w stamp)
  open_keeps w h stamp = unless _ _ refl (λ lengths. unless _ _ refl (λ _. comes (
    record { clock = stamp; active = []; line = [] },
    record {
      way = start stamp;
      fit = fits (not-false _ lengths);
      clock = refl;
      roll = record {
        full = refl;
        single = tt;
        old = λ m u e. absurd (empty m u e);
        tidy = λ m u e. absurd (empty m u e);
        at_work = λ t i. absurd i;
        waiting = λ t i. absurd i;
        lined = λ t i. absurd i;
        done = λ t u i. absurd i;
        known = λ m u e. absurd (empty m u e);
      };
      shelf = record {
        begins = λ q v a. absurd (no_entry (length w.versions) q v a);
        ends = λ q v a. absurd (no_entry (length w.versions) q v a);
        shows = λ R late. record { sound = λ q v a. absurd (no_entry (length w.versions) q v a); unique = λ q q' v u a. absurd (no_entry (length w.versions) q v a); complete = λ k b x e. absurd (some_none (sym e)) };
        ended = λ t i. absurd i;
        own = λ t i. absurd i;
        marked = λ t i. absurd i;
        marked' = λ t i. absurd i;
      };
      listed = record { into = λ q v a. absurd (no_entry (length w.versions) q v a); from = λ k q i. absurd i; climbing = tt };
      guards = record { at_work = λ t i. absurd i; preparing = λ t i. absurd i };
      tale = record {
        lives = λ t i. absurd (⊎_elim (λ j. j) (λ j. j) i);
        committed = λ n e. absurd (false≢true e);
        prepared = λ n e a. absurd (some_none (sym a));
        aborted = λ m u e. absurd (empty m u e);
        settled = λ m e u f. absurd (empty m u f);
        serial = refl;
      };
    },
  )))
    where
      empty : (m : ℕ) (u : Sitter) → find (replicate 64 None) m ≡ Some u → ⊥
      empty m u e = some_none (sym e ∙ nobody_there 64 m)

      versions : List (Entry (Version K V))
      versions = replicate (length w.versions) emptied

      notes : List (Entry (Note K))
      notes = replicate (length w.notes) emptied

      as_long : length versions ≡ length w.versions
      as_long = length-replicate (length w.versions) emptied

      as_many : length notes ≡ length w.notes
      as_many = length-replicate (length w.notes) emptied

      fits : allowed (length w.versions) (length w.notes) w.index.capacity ≡ true → ((allowed (length versions) (length notes) w.index.capacity && eqb (length w.versions) (length versions)) && eqb (length w.notes) (length notes)) ≡ true
      fits e = and_from _ _ (and_from _ _ (ap (λ a. allowed a (length notes) w.index.capacity) as_long ∙ ap (λ a. allowed (length w.versions) a w.index.capacity) as_many ∙ e) (eq-eqb (length w.versions) (length versions) (sym as_long))) (eq-eqb (length w.notes) (length notes) (sym as_many))

  deed_none : (n : ℕ) (r : Refusal) (d : Event K V) (h : History K V) → harmless r → (event_of {V = V} n (Err r) d ++ h) ≡ h
  deed_none n r d h e = ap (λ (b : Bool). cond b ((n, runs.Aborted) ∷ []) [] ++ h) e

  -- a refusal that does not abort tells nothing
  told_nothing : (a : Call K V) (r : Refusal) (rows : List (Row K V)) (h : History K V) → harmless r → told a (Err r) rows h ≡ h
  told_nothing (call.Open s) r rows h e = refl
  told_nothing (call.Begin l) r rows h e = deed_none 0 r (runs.Began l) h e
  told_nothing (call.Book n b) r rows h e = deed_none n r runs.Validated h e
  told_nothing (call.Prepare n) r rows h e = deed_none n r (runs.Prepared 0) h e
  told_nothing (call.Validate n) r rows h e = deed_none n r runs.Validated h e
  told_nothing (call.Commit n) r rows h e = deed_none n r runs.Committed h e
  told_nothing (call.Abort n) r rows h e = deed_none n r runs.Aborted h e
  told_nothing (call.Finish n) r rows h e = refl
  told_nothing call.Sweep r rows h e = refl
  told_nothing call.Tally r rows h e = refl

  so_good : (p : Position K V) (a : Call K V) {m : Outcome K V} → Good V order total p → Comes (λ r. Good V order total (after V order total p a r)) m → Good V order total (after V order total p a (or_as_found p.world m))
  unfolding or_as_found
  so_good p a g (comes h) = h
  so_good p a g (refused {r = r} e) = subst (λ h. Good V order total (record { world = p.world; history = h })) (sym (told_nothing a r p.world.rows p.history e)) g

  keeps : (p : Position K V) (c : Choice) → Allowed c p.world → (a : Call K V) (s : State (game V order total)) → Inv V order total p s → Comes (λ r. Good V order total (after V order total p a r)) (outcome order c p.world a)
  keeps p c ok (call.Open stamp) s i = open_keeps p.world p.history stamp
  keeps p c ok (call.Begin l) s i = begin_keeps V order total p s i l
  keeps p c ok (call.Book n (book.Read k)) s i = read_keeps V order total p s i c ok n k
  keeps p c ok (call.Book n (book.Scan k l)) s i = scan_keeps V order total p s i c ok n k l
  keeps p c ok (call.Book n (book.Insert k x)) s i = insert_keeps V order total p s i c ok n k x
  keeps p c ok (call.Book n (book.Update k x)) s i = update_keeps V order total p s i c ok n k x
  keeps p c ok (call.Book n (book.Delete k)) s i = delete_keeps V order total p s i c ok n k
  keeps p c ok (call.Prepare n) s i = prepare_keeps V order total p s i n
  keeps p c ok (call.Validate n) s i = validate_keeps V order total p s i n
  keeps p c ok (call.Commit n) s i = commit_keeps V order total p s i n
  keeps p c ok (call.Abort n) s i = abort_keeps V order total p s i n
  keeps p c ok (call.Finish n) s i = finish_keeps V order total p s i n
  keeps p c ok call.Sweep s i = sweep_keeps V order total p s i
  keeps p c ok call.Tally s i = tally_keeps V order total p s i

  opened_good : (w : World K V) (stamp : ℕ) {m : Outcome K V} → T (is_done (or_as_found w m).1) → Comes (λ r. Good V order total (after V order total (record { world = w; history = [] }) (call.Open stamp) r)) m →
      Good V order total (after V order total (record { world = w; history = [] }) (call.Open stamp) (or_as_found w m))
  unfolding or_as_found
  opened_good w stamp t (comes h) = h
  opened_good w stamp t (refused e) = absurd t

  lent : (p : Position K V) (rows : List (Row K V)) → Good V order total p → Good V order total (lend p rows)
  lent p rows g = (g.0, record { way = g.1.way; fit = g.1.fit; clock = g.1.clock; roll = g.1.roll; shelf = g.1.shelf; listed = g.1.listed; guards = g.1.guards; tale = g.1.tale })

  good : (p : Position K V) → Run order p → Good V order total p
  good p (opened w c stamp t) = opened_good w stamp t (open_keeps w [] stamp)
  good p (called {p = q} r rows c ok a) = let g = lent q rows (good q r) in so_good (lend q rows) a g (keeps (lend q rows) c (record { version = ok.version; note = ok.note }) a g.0 g.1)

  pub run_law : (p : Position K V) → Run order p → Lawful order p
  run_law p r = lawful p (good p r)

-- the law, as stated
pub serial_law : (K V : Type 0) (order : K → K → Ordering) → SerialLaw K V order
serial_law K V order total p r = run_law V order total p r
