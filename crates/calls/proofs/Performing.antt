-- What is performed, from the facts of its parts, and what the rules allow of it. Assumes nothing.
use Rattle.std.proofs.Common.{◌≡◌, refl, Result, Ordering, sym, ap, ◌∙◌}
use Rattle.rules.specs.declared.Call.{Call}
use Rattle.rules.specs.declared.Answer.{Answer}
use Rattle.rules.specs.declared.Refusal.{Refusal}
use Rattle.rules.specs.Worlds.{World, Choice, Allowed}
use Rattle.rules.specs.Rules.{rule}
use Rattle.tables.proofs.Picking.{picks_allowed}
use Rattle.data_calls.specs.Calling.{picked}
use Rattle.calls.specs.Performing.{Desk, Hints, Hinted, hints_of, world_of, desk_of, found_from, after, chosen, performed, Performs}
use Rattle.calls.specs.Promises.{Answers}

module _ {K V : Type 0} where
  -- a call takes free entries wherever there are any
  pub chosen_allowed : (d : Desk K V) (a : Call K V) → Allowed (chosen d a) (world_of d)
  chosen_allowed d a = picks_allowed (after d a).0 (after d a).1 (world_of d)

module _ {K V : Type 0} (order : K → K → Ordering) where
  -- a call that finds the desk d leaves d' and answers r, with the free entries found from the hints that d' has
  abbrev pub AnswersByHints : Desk K V → Desk K V → Call K V → Result (Answer V) Refusal → Type 0
  AnswersByHints d d' a r = rule order (found_from (hints_of d'.store) d) (world_of d) a ≡ (world_of d', r)

  abbrev with_hints : Hints → World K V × Result (Answer V) Refusal → Desk K V × Result (Answer V) Refusal
  with_hints z x = (desk_of x.0 z, x.1)

  -- the answer of a call and its hints make up all that it does
  pub exactly : (d d' : Desk K V) (a : Call K V) (r : Result (Answer V) Refusal) → Hinted d'.store (after d a) → AnswersByHints d d' a r → Performs order d d' a r
  exactly d d' a r h l =
      ap (λ (z : Hints). with_hints z (rule order (found_from z d) (world_of d) a)) (λ j. (sym h.0 j, sym h.1 j))
      ∙ ap (with_hints (hints_of d'.store)) l

  -- and what is performed has both
  pub by_hints : (d d' : Desk K V) (a : Call K V) (r : Result (Answer V) Refusal) → Performs order d d' a r → Hinted d'.store (after d a) × AnswersByHints d d' a r
  by_hints d d' a r e =
      let h : ◌≡◌ {A = Hints} (after d a) (hints_of d'.store) = ap (λ (x : Desk K V × Result (Answer V) Refusal). hints_of x.0.store) e in (
        (sym (ap (λ (z : Hints). z.0) h), sym (ap (λ (z : Hints). z.1) h)),
        ap (λ (z : Hints). rule order (found_from z d) (world_of d) a) (sym h) ∙ ap (λ (x : Desk K V × Result (Answer V) Refusal). (world_of x.0, x.1)) e,
      )

  -- what is performed answers as the rules say
  pub performs : (d : Desk K V) (a : Call K V) → Answers order (world_of d) (world_of (performed order d a).0) a (performed order d a).1
  performs d a = (chosen d a, chosen_allowed d a, refl)

  pub answers : (d d' : Desk K V) (a : Call K V) (r : Result (Answer V) Refusal) → Performs order d d' a r → Answers order (world_of d) (world_of d') a r
  answers d d' a r e = (chosen d a, chosen_allowed d a, ap (λ (x : Desk K V × Result (Answer V) Refusal). (world_of x.0, x.1)) e)

  -- a call that comes to the same for every choice takes no free entry, so any serves
  pub whichever : (w w' : World K V) (a : Call K V) (r : Result (Answer V) Refusal) → ((c : Choice) → rule order c w a ≡ (w', r)) → Answers order w w' a r
  whichever w w' a r e = let c = picked 0 0 w.versions w.notes in (c, picks_allowed 0 0 w, e c)
