-- A call that answers as the rules say carries every run on, and the law with it. Assumes nothing.
use Rattle.std.proofs.Common.{◌≡◌, ℕ, Bool, true, false, cond, T, List, [], Result, Ordering, sym, refl, ap, ◌∙◌, subst}
use Rattle.keys.specs.Laws.{TotalOrder}
use Rattle.rules.specs.declared.Row.{Row}
use Rattle.rules.specs.declared.Call.{Call}
use Rattle.rules.specs.declared.Call.TheVariants as call
use Rattle.rules.specs.declared.Answer.{Answer}
use Rattle.rules.specs.declared.Refusal.{Refusal}
use Rattle.rules.specs.Worlds.{World, Choice, Allowed, with_rows}
use Rattle.rules.specs.Rules.{rule}
use Rattle.rules.specs.Book.{is_done}
use Rattle.rules.specs.Runs.{Position, Run, opened, called, told}
use Rattle.rules.specs.Law.{Lawful}
use Rattle.rules.proofs.Final.{serial_law}
use Rattle.calls.specs.Promises.{afterwards, Answers, GoesOn, Begins}

is_true : (b : Bool) → T b → b ≡ true
is_true true t = refl
is_true false t = absurd t

module _ {K V : Type 0} (order : K → K → Ordering) (total : TotalOrder order) where
  both : (p : Position K V) → Run order p → Run order p × Lawful order p
  both p run = (run, serial_law K V order total p run)

  -- the position that the rules come to, from the world and the answer that they give
  comes_to : (a : Call K V) (h : List _) (x y : World K V × Result (Answer V) Refusal) → x ≡ y →
      ◌≡◌ {A = Position K V} (record { world = x.0; history = told a x.1 x.0.rows h }) (record { world = y.0; history = told a y.1 y.0.rows h })
  comes_to a h x y e = ap (λ (z : World K V × Result (Answer V) Refusal). record { world = z.0; history = told a z.1 z.0.rows h }) e

  -- the row table plays no part in what is allowed
  for_any_rows : (c : Choice) (w : World K V) (rows : List (Row K V)) → Allowed c (with_rows w rows) → Allowed c w
  for_any_rows c w rows ok = record { version = ok.version; note = ok.note }

  pub goes_on : (w w' : World K V) (a : Call K V) (r : Result (Answer V) Refusal) → Answers order w w' a r → GoesOn order w w' a r
  goes_on w w' a r x p run same =
      let P : World K V → Type 0 = λ z. Allowed x.0 z in
      let Q : Position K V → Type 0 = λ q. Run order q in
      both (afterwards p w' a r)
      (subst Q (comes_to a p.history (rule order x.0 (with_rows p.world w.rows) a) (w', r) (ap (λ z. rule order x.0 z a) same ∙ x.2))
      (called run w.rows x.0 (for_any_rows x.0 p.world w.rows (subst P (sym same) x.1)) a))

  begun : (w w' : World K V) (stamp : ℕ) (r : Result (Answer V) Refusal) → Answers order w w' (call.Open stamp) r → is_done r ≡ true → Run order (record { world = w'; history = [] })
  begun w w' stamp r x done =
      let Q : Position K V → Type 0 = λ q. Run order q in
      let F : Bool → Position K V = λ b. record { world = w'; history = cond b [] [] } in
      let told_so : is_done (rule order x.0 w (call.Open stamp)).1 ≡ true = ap (λ (z : World K V × Result (Answer V) Refusal). is_done z.1) x.2 ∙ done in
      subst Q (comes_to (call.Open stamp) [] (rule order x.0 w (call.Open stamp)) (w', r) x.2 ∙ ap F done) (opened w x.0 stamp (subst T (sym told_so) tt))

  pub begins : (w w' : World K V) (a : Call K V) (r : Result (Answer V) Refusal) → Answers order w w' a r → Begins order w' a r
  begins w w' (call.Open stamp) r x = λ done. both (record { world = w'; history = [] }) (begun w w' stamp r x (is_true (is_done r) done))
  begins w w' (call.Begin l) r x = tt
  begins w w' (call.Book n b) r x = tt
  begins w w' (call.Prepare n) r x = tt
  begins w w' (call.Validate n) r x = tt
  begins w w' (call.Commit n) r x = tt
  begins w w' (call.Abort n) r x = tt
  begins w w' (call.Finish n) r x = tt
  begins w w' call.Sweep r x = tt
  begins w w' call.Tally r x = tt
