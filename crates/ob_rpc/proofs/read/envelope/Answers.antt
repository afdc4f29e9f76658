use Rattle.serde_json.specs.View.{members_view}
use Rattle.ob_rpc.specs.Envelope.{envelope_in}
use Rattle.ob_rpc.proofs.Ids.{envelope_in-plain, answer_plain}
use Rattle.ob_rpc.proofs.read.envelope.Goals as goal

pub returns-clause-id : goal.returns-clause-id
returns-clause-id c = answer_plain c.read_body.result (envelope_in c.args.served (members_view c.in-Some.members.entries)) (envelope_in-plain _ _) c.read_body.ensures.envelope
