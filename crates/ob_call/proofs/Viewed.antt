-- Answers with their JSON seen as its data.
use Rattle.std.proofs.Common.{Ok, Err}
use Rattle.std.specs.Prelude.{IfErr, Result}
use Rattle.ob_base.specs.declared.refusal.Refusal.{Refusal}
use Rattle.ob_call.specs.Called.{result_view}
use Rattle.serde_json.specs.declared.value.Value.{Value}

-- a refusal is the same however the answer is seen
pub IfErr-result_view : (P : Refusal → Type 0) (r : Result Value Refusal) → IfErr r P → IfErr (result_view r) P
IfErr-result_view P (Ok json) h = tt
IfErr-result_view P (Err why) h = h
