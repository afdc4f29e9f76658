use Rattle.std.proofs.Common.{◌∙◌}
use Rattle.std.proofs.lemmas.Result.{IfOk-weaker}
use Rattle.ob_rpc.proofs.Pieces.{error_pieces}
use Rattle.ob_rpc.proofs.reply.error_text.Goals as goal

pub returns : goal.returns
returns c =
    IfOk-weaker c.joined.result _ _
    (λ text is id_plain. is ∙ error_pieces _ _ _ _ _ _ (c.as_str.ensures.value ∙ c.in_ok-message_text.ensures)
    (c.as_str-2.ensures.value ∙ c.in_ok-name_text.ensures) (c.as_str-3.ensures.value ∙ c.in_ok-id_text.ensures.text id_plain))
    c.joined.ensures
