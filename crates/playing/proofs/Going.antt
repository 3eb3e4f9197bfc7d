-- One more call of a play. Assumes nothing.
use Rattle.std.proofs.Common.{◌≡◌, ℕ, ◌+◌, ◌<◌, ◌≤◌, List, [], ◌∷◌, ◌++◌, map, length, get_or, take, drop, set, Some, Option, Ordering, sym, refl, ap, ◌∙◌, subst, arith}
use Rattle.std.proofs.lemmas.List.{append_assoc, map-append, length-map, length_push, length-take-le, take_more, drop_more, set_at}
use Rattle.rules.specs.declared.Call.{Call}
use Rattle.rules.specs.Worlds.{World, with_rows}
use Rattle.rules.specs.Runs.{Position, Run}
use Rattle.calls.specs.Promises.{afterwards, Answers, GoesOn}
use Rattle.playing.specs.Plays.{Reply, Played, none, one_more, PlaysOn}

-- one more entry of a table that is filled from the front
filled_more : {X : Type 0} (rs : List X) (r : X) (xs : List (Option X)) (i : ℕ) → length rs ≡ i → i < length xs →
    set (map Some rs ++ drop i xs) i (Some r) ≡ map Some (rs ++ (r ∷ [])) ++ drop (i + 1) xs
filled_more rs r xs i long inside =
    ap (λ ys. set (map Some rs ++ ys) i (Some r)) (drop_more xs i (Some r) inside)
    ∙ set_at (map Some rs) (get_or xs i (Some r)) (drop (i + 1) xs) (Some r) i (length-map rs Some ∙ long)
    ∙ sym (append_assoc (map Some rs) (Some r ∷ []) (drop (i + 1) xs))
    ∙ ap (λ ys. ys ++ drop (i + 1) xs) (sym (map-append Some rs (r ∷ [])))

module _ {K V : Type 0} (order : K → K → Ordering) where
  run_again : {p : Position K V} {calls : List (Call K V)} {rs : List (Reply V)} {q : Position K V} → Run order p → Played order p calls rs q → Run order q
  run_again run none = run
  run_again run (one_more before w' a r x again law) = again

  as_many : {p : Position K V} {calls : List (Call K V)} {rs : List (Reply V)} {q : Position K V} → Played order p calls rs q → length rs ≡ length calls
  as_many none = refl
  as_many (one_more {calls} {rs} before w' a r x again law) = length_push rs r ∙ ap (λ n. n + 1) (as_many before) ∙ sym (length_push calls a)

  pub play_none : (w : World K V) (calls : List (Call K V)) (answers : List (Option (Reply V))) → PlaysOn order w w calls answers answers 0
  play_none w calls answers p run at = ([], p, none, at, refl)

  pub play_more : (w u w' : World K V) (calls : List (Call K V)) (answers before after : List (Option (Reply V))) (i : ℕ) (a : Call K V) (r : Reply V) →
      i < length calls → i < length answers → a ≡ get_or calls i a → PlaysOn order w u calls answers before i →
      Answers order u w' a r → GoesOn order u w' a r → after ≡ set before i (Some r) → PlaysOn order w w' calls answers after (i + 1)
  play_more w u w' calls answers before after i a r in_calls in_answers read led x law written p run at =
      let h = led p run at in
      let rs = h.0 in
      let q = h.1 in
      let on = law q (run_again run h.2) (ap (λ z. with_rows z u.rows) h.3) in
      let P : World K V → Type 0 = λ z. Answers order z w' a r in
      let Q : List (Call K V) → Type 0 = λ cs. Played order p cs (rs ++ (r ∷ [])) (afterwards q w' a r) in
      let one : take i calls ++ (a ∷ []) ≡ take (i + 1) calls = ap (λ z. take i calls ++ (z ∷ [])) read ∙ sym (take_more calls i a in_calls) in
      let long : length rs ≡ i = as_many h.2 ∙ length-take-le i calls (omega arith) in (
        rs ++ (r ∷ []),
        afterwards q w' a r,
        subst Q one (one_more h.2 w' a r (subst P (sym h.3) x) on.0 on.1),
        refl,
        written ∙ ap (λ ys. set ys i (Some r)) h.4 ∙ filled_more rs r answers i long in_answers,
      )

  pub play_all : (w w' : World K V) (calls : List (Call K V)) (answers answers' : List (Option (Reply V))) (i n : ℕ) →
      i ≤ n → n ≤ i → PlaysOn order w w' calls answers answers' i → PlaysOn order w w' calls answers answers' n
  play_all w w' calls answers answers' i n below above led =
      let P : ℕ → Type 0 = λ m. PlaysOn order w w' calls answers answers' m in
      subst P {x = i} {y = n} (omega (arith, below, above)) led
