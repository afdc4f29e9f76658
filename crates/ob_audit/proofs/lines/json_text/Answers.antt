use Rattle.serde_json.specs.View.{view}
use Rattle.ob_audit.proofs.JsonTexts.{value_plain}
use Rattle.ob_audit.proofs.lines.json_text.Goals as goal

pub returns : goal.returns
returns c = record {
  json = view c.in_ok-json.json;
  means = c.in_ok-json.ensures;
  spelled = c.in_ok-to_string.ensures.text (value_plain c.args.value.now (view c.in_ok-json.json) c.in_ok-json.ensures);
}
