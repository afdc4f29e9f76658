use Rattle.std.proofs.Common.{◌<◌, ◌≤◌, length, get_or, sym, ap, ◌∙◌, arith}
use Rattle.ob_base.specs.declared.id.FieldNo.{FieldNo}
use Rattle.ob_expr.specs.declared.typed.Link.{Link}
use Rattle.ob_expr.proofs.Renumbered.{end-end, end-more, left_set, link_of, links-end, links-more}
use Rattle.ob_expr.proofs.paths.renumber_links.Goals as goal

pub loop-link-preserved : goal.loop-link-preserved
loop-link-preserved g c =
    let r = g.N.Renumbering.renumbers c.args.numbers.now in
    let i = c.loop-link.link-index in
    let now = c.loop-link.links in
    let old = c.args.links.now in
    let d : Link = record { field = record { 0 = 0 }; target = record { 0 = 0 } } in
    let lt : c.loop-link.link-index < length c.loop-link.links = omega arith in
    let within : c.loop-link.link-index < length c.args.links.now = omega arith in
    let left = c.loop-link.invariant.left in
    let y = link_of c.number-link.result (get_or now i d).target in
    record {
      told = c.loop-link.invariant.told
          ∙ links-more r c.loop-link.model old now i d lt within left y (ap (λ (n : FieldNo). link_of n (get_or now i d).target) c.number-link.ensures);
      ends = c.loop-link.invariant.ends ∙ end-more r c.loop-link.model old now i d lt within left;
      left = left_set now old i d y lt within left;
    }

pub returns-clause-links : goal.returns-clause-links
returns-clause-links g c =
    let le : length c.loop-link.links ≤ c.loop-link.link-index = omega arith in
    let past : length c.args.links.now ≤ c.loop-link.link-index = omega arith in
    sym (c.loop-link.invariant.told
    ∙ links-end (g.N.Renumbering.renumbers c.args.numbers.now) c.loop-link.model c.args.links.now c.loop-link.links c.loop-link.link-index le past)

pub returns-clause-end : goal.returns-clause-end
returns-clause-end g c =
    let past : length c.args.links.now ≤ c.loop-link.link-index = omega arith in
    sym (c.loop-link.invariant.ends ∙ end-end c.loop-link.model c.args.links.now c.loop-link.link-index past)
