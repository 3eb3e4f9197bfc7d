use Rattle.std.proofs.Common.{◌∙◌, rules}
use Rattle.script.proofs.Telling.{exit, faulty, refused, answered}
use Rattle.script.proofs.desk.Tables.carry_out.Goals as goal

pub returns-in_err-call-clause-answers : goal.returns-in_err-call-clause-answers
returns-in_err-call-clause-answers g c = exit _ _ c.from_residual.ensures.1 ∙ (faulty c.args.line _ _ c.in_err-call.field-0.0 c.in_err-call.ensures).0

pub returns-in_err-answer : goal.returns-in_err-answer
returns-in_err-answer g c =
    let h = refused c.args.line _ _ _ c.in_ok-call.call c.ask.result c.in_ok-call.ensures c.ask.ensures _ c.in_err-answer.field-0.0 c.in_err-answer.ensures.cases (λ e p. search rules) in
    record { answers = exit _ _ c.from_residual-in_err-answer.ensures.1 ∙ h.0; leaves = h.1 }

pub returns : goal.returns
returns g c =
    let h = answered c.args.line _ _ _ c.in_ok-call.call c.ask.result c.in_ok-call.ensures c.ask.ensures c.in_ok-answer.answer c.in_ok-answer.ensures.cases in
    record { answers = h.0; leaves = h.1 }
