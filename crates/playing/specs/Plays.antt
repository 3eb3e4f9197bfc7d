-- Calls carried out one after the other. Assumes nothing.
use Rattle.std.specs.Prelude.{◌≡◌, ℕ, min, List, [], ◌∷◌, ◌++◌, map, length, take, drop, Some, Ok, Err, Option, Result}
use Rattle.std.specs.declared.cmp.Ordering.{Ordering}
use Rattle.rules.specs.declared.Call.{Call}
use Rattle.rules.specs.declared.Call.TheVariants as call
use Rattle.rules.specs.declared.Answer.{Answer}
use Rattle.rules.specs.declared.Answer.TheVariants as answer
use Rattle.rules.specs.declared.Refusal.{Refusal}
use Rattle.rules.specs.Worlds.{World}
use Rattle.rules.specs.Runs.{Position, Run}
use Rattle.rules.specs.Law.{Lawful}
use Rattle.calls.specs.Promises.{afterwards, Answers}

-- what a call was answered
abbrev pub Reply : Type 0 → Type 0
Reply V = Result (Answer V) Refusal

module _ {K V : Type 0} where
  -- where the run stands that begins with the world w
  abbrev pub start : World K V → Position K V
  start w = record { world = w; history = [] }

module _ {K V : Type 0} (order : K → K → Ordering) where
  -- from the position p the calls, each answered as the rules say, lead to the position q;
  -- after each of them the position is that of a run, and the law holds
  pub data Played (p : Position K V) : List (Call K V) → List (Reply V) → Position K V → Type 0 where
    none : Played p [] [] p
    one_more : {calls : List (Call K V)} {rs : List (Reply V)} {q : Position K V} → Played p calls rs q →
        (w' : World K V) (a : Call K V) (r : Reply V) → Answers order q.world w' a r →
        Run order (afterwards q w' a r) → Lawful order (afterwards q w' a r) →
        Played p (calls ++ (a ∷ [])) (rs ++ (r ∷ [])) (afterwards q w' a r)

  -- from the position p the first n calls lead to the world w'; their answers stand in the first n entries of the answers table,
  -- and the rest of it is as it was
  abbrev pub Leads : Position K V → World K V → List (Call K V) → List (Option (Reply V)) → List (Option (Reply V)) → ℕ → Type 0
  Leads p w' calls answers answers' n =
      (rs : List (Reply V)) × (q : Position K V) × Played p (take n calls) rs q × (q.world ≡ w') × (answers' ≡ map Some rs ++ drop n answers)

  -- every run that led to the world w goes on by the first n calls
  abbrev pub PlaysOn : World K V → World K V → List (Call K V) → List (Option (Reply V)) → List (Option (Reply V)) → ℕ → Type 0
  PlaysOn w w' calls answers answers' n = (p : Position K V) → Run order p → p.world ≡ w → Leads p w' calls answers answers' n

  -- opened at the stamp, the world becomes o and begins a run, and as many calls as have room lead on from there;
  -- or the open is refused, and all is as it was
  abbrev pub Plays : ℕ → World K V → World K V → List (Call K V) → List (Option (Reply V)) → List (Option (Reply V)) → Result ℕ Refusal → Type 0
  Plays stamp w w' calls answers answers' (Ok n) =
      (n ≡ min (length calls) (length answers))
      × (o : World K V) × Answers order w o (call.Open stamp) (Ok answer.Done)
      × Run order (start o) × Lawful order (start o)
      × Leads (start o) w' calls answers answers' n
  Plays stamp w w' calls answers answers' (Err e) = Answers order w w (call.Open stamp) (Err e) × (w' ≡ w) × (answers' ≡ answers)
