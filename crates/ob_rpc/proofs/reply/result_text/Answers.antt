use Rattle.std.proofs.Common.{◌∙◌}
use Rattle.std.proofs.lemmas.Result.{IfOk-weaker}
use Rattle.ob_rpc.proofs.Pieces.{result_pieces}
use Rattle.ob_rpc.proofs.reply.result_text.Goals as goal

pub returns : goal.returns
returns c =
    IfOk-weaker c.joined.result _ _
    (λ text is id_plain value_plain. is ∙ result_pieces _ _ _ _ (c.as_str.ensures.value ∙ c.in_ok-id_text.ensures.text id_plain) (c.as_str-2.ensures.value ∙ c.in_ok-value_text.ensures.text value_plain))
    c.joined.ensures
