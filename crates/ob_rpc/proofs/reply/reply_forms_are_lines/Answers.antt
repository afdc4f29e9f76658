use Rattle.ob_rpc.proofs.Lines.{compact_text-IsOneLine}
use Rattle.ob_rpc.specs.Reply.{reply_data}
use Rattle.ob_rpc.proofs.reply.reply_forms_are_lines.Goals as goal

pub returns : goal.returns
returns c = λ id reply. compact_text-IsOneLine (reply_data id reply)
