-- Each record that is given leaves fewer bytes.
use Rattle.std.proofs.Common.{Some, rules}
use Rattle.capture.specs.Records.{GivesRecord}
use Rattle.capture.proofs.Following.{nearer}
use Rattle.capture.proofs.RecordsIterator.next.Goals as goal

pub returns-clause-goes : goal.returns-clause-goes
returns-clause-goes c =
    let s = c.args.self.now.capture.now in
    let at = c.in_ok-self.field-0 in
    let g : GivesRecord s (Some at) (Some c.in_ok-found.found) c.map-self.result = search rules in
    let n = nearer s at _ _ g in
    record { on = λ f. rw c.in_ok-self.was (search (rules, n)); keeps = tt; rests = λ f. tt }
