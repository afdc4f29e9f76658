-- The links of a dotted name, one a step.
use Rattle.std.proofs.Common.{◌≡◌, ℕ, ◌+◌, ◌-◌, ◌<◌, [], List, Bor, length, drop, get_or, map, take, refl, sym, subst, ◌∙◌, arith}
use Rattle.std.proofs.lemmas.Grind.{common_steps}
use Rattle.std.proofs.lemmas.Result.{err_from_is_err_and}
use Rattle.ob_domain.specs.Over.{end_of}
use Rattle.ob_domain.proofs.Aims.{AreLinks-more, IsFoundTo, IsFoundTo-all, IsFoundTo-end, IsFoundTo-more, IsFoundTo-no_field, IsFoundTo-no_link, IsFoundTo-none, IsFoundTo-past, IsFoundTo-turn, end_of-more, last_apart, link_there}
use Rattle.ob_domain.proofs.aim.aim_along.Goals as goal

-- no text, at no place
abbrev none : Bor (List ℕ)
none = record { ref_ptr = (0, 0); now = [] }

abbrev texts : List (Bor (List ℕ)) → List (List ℕ)
texts steps = map (λ (s : Bor (List ℕ)). s.now) steps

abbrev before : List (Bor (List ℕ)) → List (Bor (List ℕ))
before steps = take (length steps - 1) steps

abbrev last : List (Bor (List ℕ)) → List ℕ
last steps = (get_or steps (length steps - 1) none).now

pub loop-name-init : goal.loop-name-init
loop-name-init c =
    let start = IsFoundTo-none c.args.schema.now c.args.model (texts c.args.steps.now) in
    let new = c.new-links.ensures in
    rw new record {
      found = subst (λ (names : List (List ℕ)). IsFoundTo c.args.schema.now c.args.model (texts c.args.steps.now) names [] c.args.model) (last_apart c.args.steps.now none c.in-len1-up.len_at_least) start;
      there = c.requires;
      leads = tt;
      ends = refl;
    }

pub returns-in_err-stored_field-clause-aim : goal.returns-in_err-stored_field-clause-aim
returns-in_err-stored_field-clause-aim c =
    let p = err_from_is_err_and c.from_residual.result c.from_residual.ensures.1 in
    let s = c.args.steps.now in let i = c.loop-name.name-index in
    let within : i < length (before s) = grind (arith, common_steps) in
    let turn = IsFoundTo-turn c.args.schema.now c.args.model (texts s) c.loop-name.links c.loop-name.model (before s) i none (last s) within c.loop-name.invariant.found in
    rw (p.1, p.2) (λ known. IsFoundTo-no_field c.args.schema.now c.args.model (texts s) c.loop-name.links c.loop-name.model (get_or (before s) i none).now (texts (drop (i + 1) (before s))) (last s) _
    (c.in_err-stored_field.ensures.field known) turn)

pub returns-in_err-link-clause-aim : goal.returns-in_err-link-clause-aim
returns-in_err-link-clause-aim c =
    let p = err_from_is_err_and c.from_residual-in_err-link.result c.from_residual-in_err-link.ensures.1 in
    let s = c.args.steps.now in let i = c.loop-name.name-index in
    let within : i < length (before s) = grind (arith, common_steps) in
    let turn = IsFoundTo-turn c.args.schema.now c.args.model (texts s) c.loop-name.links c.loop-name.model (before s) i none (last s) within c.loop-name.invariant.found in
    rw (p.1, p.2) (λ known. IsFoundTo-no_link c.args.schema.now c.args.model (texts s) c.loop-name.links c.loop-name.model (get_or (before s) i none).now (texts (drop (i + 1) (before s))) (last s)
    c.in_ok-stored_field.field-0 _ c.in_ok-stored_field.ensures.field (c.in_err-link.ensures.link known) turn)

pub loop-name-preserved : goal.loop-name-preserved
loop-name-preserved c =
    let s = c.args.steps.now in let i = c.loop-name.name-index in let models = c.args.schema.now in let link = c.in_ok-link.link in
    let within : i < length (before s) = grind (arith, common_steps) in
    let turn = IsFoundTo-turn models c.args.model (texts s) c.loop-name.links c.loop-name.model (before s) i none (last s) within c.loop-name.invariant.found in
    let pushed = c.in_ok-push.ensures.ok in
    rw pushed record {
      found = IsFoundTo-more models c.args.model (texts s) c.loop-name.links c.loop-name.model (get_or (before s) i none).now (texts (drop (i + 1) (before s))) (last s) c.in_ok-stored_field.field-0 link
          c.in_ok-stored_field.ensures.field c.in_ok-link.ensures.link turn;
      there = c.in_ok-link.ensures.there;
      leads = AreLinks-more models c.args.model c.loop-name.links link c.loop-name.invariant.leads
          (link_there models c.loop-name.model (end_of c.args.model c.loop-name.links) c.in_ok-stored_field.field-0 link c.loop-name.invariant.ends c.in_ok-stored_field.ensures.own c.in_ok-link.ensures.own
          c.in_ok-stored_field.ensures.there) c.in_ok-link.ensures.there;
      ends = end_of-more c.args.model c.loop-name.links link;
    }

pub returns-in_err-field-clause-aim : goal.returns-in_err-field-clause-aim
returns-in_err-field-clause-aim c =
    let p = err_from_is_err_and c.from_residual-in_err-field.result c.from_residual-in_err-field.ensures.1 in
    let s = c.args.steps.now in let i = c.loop-name.name-index in
    let end : drop i (before s) ≡ [] = grind (arith, common_steps) in
    let past = IsFoundTo-past c.args.schema.now c.args.model (texts s) c.loop-name.links c.loop-name.model (before s) i (last s) end c.loop-name.invariant.found in
    rw (p.1, p.2) (λ known. IsFoundTo-end c.args.schema.now c.args.model (texts s) c.loop-name.links c.loop-name.model (last s) _ (c.in_err-field.ensures.field known) past)

pub returns-clause-aim : goal.returns-clause-aim
returns-clause-aim c =
    let s = c.args.steps.now in let i = c.loop-name.name-index in
    let end : drop i (before s) ≡ [] = grind (arith, common_steps) in
    let past = IsFoundTo-past c.args.schema.now c.args.model (texts s) c.loop-name.links c.loop-name.model (before s) i (last s) end c.loop-name.invariant.found in
    IsFoundTo-all c.args.schema.now c.args.model (texts s) c.loop-name.links c.loop-name.model (last s) c.in_ok-field.field c.in_ok-field.ensures.field past

pub returns-clause-links : goal.returns-clause-links
returns-clause-links c = c.loop-name.invariant.leads

pub returns-clause-end : goal.returns-clause-end
returns-clause-end c = c.loop-name.invariant.ends ∙ sym c.in_ok-field.ensures.own
