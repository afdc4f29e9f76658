-- Bytes that are no request with as few fields as a head may have are no request.
use Rattle.std.proofs.Common.{◌≡◌, ◌≤◌, false, sym, ap, ◌∙◌, arith}
use Rattle.ob_http.specs.Head.{has_other_version}
use Rattle.ob_http.proofs.Asked.{reads_asked, none_reads, line_known}
use Rattle.ob_http.proofs.head.asks.Goals as goal

pub returns-in-None : goal.returns-in-None
returns-in-None c = λ known is.
    let found = c.requires.found in
    let same = line_known c.args.bytes.now known found.0 is found.1 in
    let line : has_other_version known.line ≡ false
    = ap has_other_version (same.0 ∙ sym found.3.line) ∙ sym c.has_other_version.ensures ∙ c.if-has_other_version.false in
    let size : c.args.head.fields ≡ found.0.fields = found.3.fields in
    let as_known : known.fields ≡ found.0.fields = same.1 in
    let few : known.fields ≤ 64 = omega (arith, c.if-head-gt-MAX_HEAD_FIELDS.false) in
    reads_asked c.args.bytes.now known _ few line (none_reads c.args.bytes.now known 64 is few c.in-None.ensures.none)
