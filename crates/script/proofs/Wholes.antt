-- Lines one after the other, and the whole script. Assumes nothing.
use Rattle.std.proofs.Common.{◌≡◌, ℕ, ◌+◌, ◌<◌, ◌≤◌, Bool, true, false, cond, ltb, List, [], ◌∷◌, ◌++◌, length, IfOk, codes, Result, sym, refl, ap, ◌∙◌, subst, append_assoc, arith}
use Rattle.std.proofs.lemmas.List.{append-nil}
use Rattle.std.proofs.lemmas.Bool.{lt-ltb}
use Rattle.keys.specs.declared.CardNumber.{CardNumber}
use Rattle.keys.specs.Kinds.{card_order}
use Rattle.rules.specs.declared.Call.TheVariants as call
use Rattle.rules.specs.Index.{meaning}
use Rattle.script_lines.specs.declared.IndexKind.{IndexKind}
use Rattle.script_lines.specs.declared.LineFault.{LineFault}
use Rattle.script_lines.specs.Lines.{lines}
use Rattle.script_lines.specs.Calls.{asked}
use Rattle.script_lines.specs.Kinds.{kind_of}
use Rattle.script_text.specs.Texts.{heading_text, fault_text}
use Rattle.script.specs.Running.{ScriptDesk, fresh_with, carried, opened, line_said, desk_after, told, LineTold, first_line, other_lines, script_said, script_text}
use Rattle.script.proofs.Telling.{told_more, told_last, told_none}

module _ (whole out : List ℕ) (line : ℕ) (d : ScriptDesk) (all : List (List ℕ)) (so_far : whole ≡ out ++ told line d all) (l : List ℕ) (ls : List (List ℕ)) (cut : all ≡ l ∷ ls) (d' : ScriptDesk) (out' : List ℕ) where
  -- the script goes on
  pub one_more : (on : Bool) → LineTold line d (asked l) d' out out' on → on ≡ true → whole ≡ out' ++ told (line + 1) d' ls
  one_more on t e =
      so_far
      ∙ ap (λ x. out ++ x) (told_more line d l ls all cut (sym e ∙ t.goes))
      ∙ sym (append_assoc out (line_said line d (asked l)) (told (line + 1) (desk_after d (asked l)) ls))
      ∙ ap (λ x. x ++ told (line + 1) (desk_after d (asked l)) ls) (sym t.writes)
      ∙ ap (λ z. out' ++ told (line + 1) z ls) (sym t.leaves)

  -- the line ends it
  pub the_last : (on : Bool) → LineTold line d (asked l) d' out out' on → on ≡ false → out' ≡ whole
  the_last on t e = t.writes ∙ ap (λ x. out ++ x) (sym (told_last line d l ls all cut (sym e ∙ t.goes))) ∙ sym so_far

pub no_more : (whole out : List ℕ) (line : ℕ) (d : ScriptDesk) (text : List ℕ) → whole ≡ out ++ told line d (lines text) → length text ≤ 0 → out ≡ whole
no_more whole out line d text so_far none = sym (so_far ∙ ap (λ x. out ++ x) (told_none line d text none) ∙ append-nil out)

-- an empty index with room for 256 pairs is that of a fresh script
pub opened_with : (xs : List (CardNumber × ℕ)) (n : ℕ) (d d' : ScriptDesk) → xs ≡ [] → n ≡ 256 → d ≡ fresh_with (meaning card_order xs n) → d' ≡ (carried d (call.Open 0)).0 → d' ≡ opened
opened_with xs n d d' none room new opens =
    opens ∙ ap (λ (z : ScriptDesk). (carried z (call.Open 0)).0) (new ∙ ap (λ (z : List (CardNumber × ℕ)). fresh_with (meaning card_order z n)) none ∙ ap (λ m. fresh_with (meaning card_order [] m)) room)

pub rest_within : (script rest : List ℕ) → (0 < length script → length rest < length script) → (script ≡ [] → rest ≡ []) → length script ≤ 65536 → length rest ≤ 65536
rest_within [] rest some none h = let e = ap length (none refl) in omega (arith, e)
rest_within (b ∷ bs) rest some none h = let s = some (omega arith) in omega (arith, s)

abbrev by_length : List ℕ → Bool → List ℕ
by_length script b = cond b (fault_text 0 0 (codes "size")) (heading_text ++ script_said (kind_of (first_line (lines script))) (other_lines (lines script)))

text_by_length : (script : List ℕ) → script_text script ≡ by_length script (ltb 65536 (length script))
unfolding script_text
text_by_length script = refl

pub too_long : (script : List ℕ) → ltb 65536 (length script) ≡ true → script_text script ≡ fault_text 0 0 (codes "size")
too_long script h = text_by_length script ∙ ap (by_length script) h

abbrev parted : List (List ℕ) → List ℕ
parted ls = heading_text ++ script_said (kind_of (first_line ls)) (other_lines ls)

pub in_lines : (script first rest : List ℕ) → (0 < length script → lines script ≡ first ∷ lines rest) → (script ≡ [] → first ≡ []) → (script ≡ [] → rest ≡ []) →
    ltb 65536 (length script) ≡ false → script_text script ≡ heading_text ++ script_said (kind_of first) (lines rest)
in_lines script first rest some none none' h = text_by_length script ∙ ap (by_length script) h ∙ go script some none none'
  where
    go : (script : List ℕ) → (0 < length script → lines script ≡ first ∷ lines rest) → (script ≡ [] → first ≡ []) → (script ≡ [] → rest ≡ []) → parted (lines script) ≡ heading_text ++ script_said (kind_of first) (lines rest)
    go [] some none none' = ap (λ (z : List ℕ × List ℕ). heading_text ++ script_said (kind_of z.0) (lines z.1)) (λ i. (sym (none refl) i, sym (none' refl) i))
    go (b ∷ bs) some none none' = ap parted (some (omega arith))

-- the lines told from a desk that is the opened one
pub told_from : {E : Type 0} (r : Result (Unit {0}) E) (out out' : List ℕ) (ls : List (List ℕ)) (d : ScriptDesk) → d ≡ opened → IfOk r (λ x. out' ≡ out ++ told 2 d ls) → IfOk r (λ x. out' ≡ out ++ told 2 opened ls)
told_from {E} r out out' ls d same h = let P : ScriptDesk → Type 0 = λ z. IfOk r (λ x. out' ≡ out ++ told 2 z ls) in subst P same h

-- the first line of the output, then what comes of the others
pub under_heading : (script new out out' first rest : List ℕ) (kind : Result IndexKind LineFault) → new ≡ [] → out ≡ new ++ heading_text → kind ≡ kind_of first → out' ≡ out ++ script_said kind (lines rest) →
    script_text script ≡ heading_text ++ script_said (kind_of first) (lines rest) → out' ≡ script_text script
under_heading script new out out' first rest kind none head picks more whole =
    more ∙ ap (λ x. x ++ script_said kind (lines rest)) (head ∙ ap (λ x. x ++ heading_text) none) ∙ ap (λ k. heading_text ++ script_said k (lines rest)) picks ∙ sym whole

pub size_alone : (script new out : List ℕ) → new ≡ [] → out ≡ new ++ fault_text 0 0 (codes "size") → 65536 < length script → out ≡ script_text script
size_alone script new out none said long = said ∙ ap (λ x. x ++ fault_text 0 0 (codes "size")) none ∙ sym (too_long script (lt-ltb 65536 (length script) long))
