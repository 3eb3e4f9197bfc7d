-- What is printed of lines, one after the other. Assumes nothing.
use Rattle.std.proofs.Common.{◌≡◌, ℕ, ◌+◌, ◌≤◌, Bool, true, false, cond, List, [], ◌∷◌, ◌++◌, length, is_ok, IsErrAnd, IfOk, Ok, Err, Result, sym, refl, ap, ◌∙◌, arith}
use Rattle.std.specs.Result.{MatchResult}
use Rattle.std.proofs.lemmas.List.{append-nil}
use Rattle.std.proofs.lemmas.Result.{err_from_is_err_and}
use Rattle.keys.specs.declared.Score.{Score}
use Rattle.rules.specs.declared.Answer.{Answer}
use Rattle.rules.specs.declared.Refusal.{Refusal}
use Rattle.script_lines.specs.Lines.{lines}
use Rattle.script_lines.specs.Calls.{asked}
use Rattle.script_text.specs.Texts.{reply_text}
use Rattle.script.specs.declared.faults.AtCall.{AtCall}
use Rattle.script.specs.declared.faults.Cause.TheVariants as cause
use Rattle.script.specs.declared.faults.ScriptFault.{ScriptFault}
use Rattle.script.specs.Faults.{of_store, read_at, answered_at, fault_said, goes_on}
use Rattle.script.specs.Running.{ScriptDesk, ScriptCall, Asked, carried, desk_after, line_said, result_of, told, LineTold}

abbrev told_with : ℕ → ScriptDesk → List ℕ → List (List ℕ) → Bool → List ℕ
told_with line d l ls b = line_said line d (asked l) ++ cond b (told (line + 1) (desk_after d (asked l)) ls) []

told_one : (line : ℕ) (d : ScriptDesk) (l : List ℕ) (ls : List (List ℕ)) → told line d (l ∷ ls) ≡ told_with line d l ls (is_ok (asked l))
unfolding told
told_one line d l ls = refl

module _ (line : ℕ) (d : ScriptDesk) (l : List ℕ) (ls : List (List ℕ)) (all : List (List ℕ)) (cut : all ≡ l ∷ ls) where
  -- a line after which the script goes on
  pub told_more : true ≡ is_ok (asked l) → told line d all ≡ line_said line d (asked l) ++ told (line + 1) (desk_after d (asked l)) ls
  told_more goes = ap (told line d) cut ∙ told_one line d l ls ∙ ap (told_with line d l ls) (sym goes)

  -- a line that ends it
  pub told_last : false ≡ is_ok (asked l) → told line d all ≡ line_said line d (asked l)
  told_last ends = ap (told line d) cut ∙ told_one line d l ls ∙ ap (told_with line d l ls) (sym ends) ∙ append-nil _

-- no line is left
pub told_none : (line : ℕ) (d : ScriptDesk) (text : List ℕ) → length text ≤ 0 → told line d (lines text) ≡ []
unfolding told
told_none line d [] h = refl
told_none line d (b ∷ bs) h = absurd (omega arith)

-- ---- a line, carried out

-- its text is at fault
pub faulty : (line : ℕ) (d : ScriptDesk) (q : Asked) (f : ScriptFault) → Err f ≡ read_at line q → (Err f ≡ result_of line d q) × (d ≡ desk_after d q)
faulty line d (Err e) f h = (cc, refl)
faulty line d (Ok a) f h = let z : ◌≡◌ {A = ℕ} 0 1 = cc in absurd (omega arith)

module _ (line : ℕ) (d d' : ScriptDesk) (q : Asked) (a : ScriptCall) (r : Result (Answer Score) Refusal) (asks : Ok a ≡ read_at line q) (does : carried d a ≡ (d', r)) where
  comes : (result_of line d q ≡ answered_at line a r) × (d' ≡ desk_after d q)
  comes = go q asks
    where
      go : (p : Asked) → Ok a ≡ read_at line p → (result_of line d p ≡ answered_at line a r) × (d' ≡ desk_after d p)
      go (Err e) h = let z : ◌≡◌ {A = ℕ} 0 1 = cc in absurd (omega arith)
      go (Ok b) h =
          let same : b ≡ a = cc in (
            ap (λ c. answered_at line c (carried d c).1) same ∙ ap (λ (z : ScriptDesk × Result (Answer Score) Refusal). answered_at line a z.1) does,
            sym (ap (λ c. (carried d c).0) same ∙ ap (λ (z : ScriptDesk × Result (Answer Score) Refusal). z.0) does),
          )

  -- the store refuses: `put` is what the closure of `map_err` says of the refusal, that it stands beside the line and the call
  pub refused : (put : Refusal → Type 0) (at : AtCall) → MatchResult r (λ x. ◌≡◌ {A = Result (Answer Score) AtCall} (Err at) (Ok x)) put
      → ((e : Refusal) → put e → at ≡ record { line = line; call = a; refusal = e }) → (Err (of_store at) ≡ result_of line d q) × (d' ≡ desk_after d q)
  refused put at e puts = (go r e ∙ sym comes.0, comes.1)
    where
      go : (y : Result (Answer Score) Refusal) → MatchResult y (λ x. ◌≡◌ {A = Result (Answer Score) AtCall} (Err at) (Ok x)) put → Err (of_store at) ≡ answered_at line a y
      go (Ok x) h = let z : ◌≡◌ {A = ℕ} 0 1 = cc in absurd (omega arith)
      go (Err x) h = ap (λ z. Err (of_store z)) (puts x h)

  -- the store answers
  pub answered : (x : Answer Score) → MatchResult r (λ y. ◌≡◌ {A = Result (Answer Score) AtCall} (Ok x) (Ok y)) (λ e. ⊥) → (Ok (a, x) ≡ result_of line d q) × (d' ≡ desk_after d q)
  answered x e = (go r e ∙ sym comes.0, comes.1)
    where
      go : (y : Result (Answer Score) Refusal) → MatchResult y (λ y. ◌≡◌ {A = Result (Answer Score) AtCall} (Ok x) (Ok y)) (λ e. ⊥) → Ok (a, x) ≡ answered_at line a y
      go (Ok y) h = let same : x ≡ y = cc in ap (λ z. Ok (a, z)) same
      go (Err y) h = absurd h

-- ---- what is written of a line

abbrev Answered : Type 0
Answered = ScriptCall × Answer Score

module _ (line : ℕ) (d : ScriptDesk) where
  -- an answer
  pub said_done : (q : Asked) (a : ScriptCall) (x : Answer Score) → Ok (a, x) ≡ result_of line d q →
      (reply_text line a (Ok x) (desk_after d q).rows ≡ line_said line d q) × (true ≡ is_ok q)
  said_done (Err f) a x e = let z : ◌≡◌ {A = ℕ} 0 1 = cc in absurd (omega arith)
  said_done (Ok b) a x e = (go (carried d b).1 e, refl)
    where
      go : (r : Result (Answer Score) Refusal) → Ok (a, x) ≡ answered_at line b r → reply_text line a (Ok x) (carried d b).0.rows ≡ reply_text line b r (carried d b).0.rows
      go (Ok y) h =
          let same : ◌≡◌ {A = Answered} (a, x) (b, y) = cc in
          ap (λ (z : Answered). reply_text line z.0 (Ok z.1) (carried d b).0.rows) same
      go (Err y) h = let z : ◌≡◌ {A = ℕ} 0 1 = cc in absurd (omega arith)

  -- a fault, or a refusal
  pub said_fault : (q : Asked) (f : ScriptFault) → Err f ≡ result_of line d q →
      (fault_said f (desk_after d q).rows ≡ line_said line d q) × (goes_on f.cause ≡ is_ok q)
  said_fault (Err e) f h =
      let same : f ≡ record { line = line; cause = cause.Text e } = cc in
      (ap (λ z. fault_said z d.rows) same, ap (λ z. goes_on z.cause) same)
  said_fault (Ok b) f h = go (carried d b).1 h
    where
      go : (r : Result (Answer Score) Refusal) → Err f ≡ answered_at line b r → (fault_said f (carried d b).0.rows ≡ reply_text line b r (carried d b).0.rows) × (goes_on f.cause ≡ true)
      go (Ok y) k = let z : ◌≡◌ {A = ℕ} 0 1 = cc in absurd (omega arith)
      go (Err y) k =
          let same : f ≡ record { line = line; cause = cause.Store b y } = cc in
          (ap (λ z. fault_said z (carried d b).0.rows) same, ap (λ z. goes_on z.cause) same)

-- ---- a line, told

module _ (line : ℕ) (d d' : ScriptDesk) (q : Asked) (leaves : d' ≡ desk_after d q) (out out' : List ℕ) where
  pub told_done : (a : ScriptCall) (x : Answer Score) → Ok (a, x) ≡ result_of line d q → out' ≡ out ++ reply_text line a (Ok x) d'.rows → LineTold line d q d' out out' true
  told_done a x is w =
      let h = said_done line d q a x is in
      record { writes = w ∙ ap (λ (z : ScriptDesk). out ++ reply_text line a (Ok x) z.rows) leaves ∙ ap (λ t. out ++ t) h.0; leaves = leaves; goes = h.1 }

  pub told_fault : {E : Type 0} (f : ScriptFault) → Err f ≡ result_of line d q → (r : Result Bool E) → IfOk r (λ on. (out' ≡ out ++ fault_said f d'.rows) × (on ≡ goes_on f.cause)) → IfOk r (λ on. LineTold line d q d' out out' on)
  told_fault f is (Err e) w = tt
  told_fault f is (Ok on) w =
      let h = said_fault line d q f is in
      record { writes = w.0 ∙ ap (λ (z : ScriptDesk). out ++ fault_said f z.rows) leaves ∙ ap (λ t. out ++ t) h.0; leaves = leaves; goes = w.1 ∙ h.1 }

-- what the exit of a `?` returns
pub exit : {T E : Type 0} (r : Result T E) (y : E) → IsErrAnd r (λ z. z ≡ y) → r ≡ Err y
exit r y h = let p = err_from_is_err_and r h in p.1 ∙ ap Err p.2
