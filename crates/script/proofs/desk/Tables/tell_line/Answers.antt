use Rattle.script.proofs.Telling.{told_done, told_fault}
use Rattle.script.proofs.desk.Tables.tell_line.Goals as goal

pub returns-in_ok-say_reply-in-Ok : goal.returns-in_ok-say_reply-in-Ok
returns-in_ok-say_reply-in-Ok g c =
    told_done c.args.line _ _ _ c.in-Ok.ensures.leaves _ _ c.in-Ok.call c.in-Ok.answer c.in-Ok.ensures.answers c.in_ok-say_reply-in-Ok.ensures

pub returns-in-Err : goal.returns-in-Err
returns-in-Err g c =
    told_fault c.args.line _ _ _ c.in-Err.ensures.leaves _ _ c.in-Err.fault c.in-Err.ensures.answers c.say_script_fault.result c.say_script_fault.ensures
