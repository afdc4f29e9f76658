-- A domain is read as the tree for which its list stands, and refused only where it stands for none, is too long or memory is wanting.
use Rattle.std.proofs.Common.{◌≡◌, Ok, refl, sym, ◌∙◌}
use Rattle.std.proofs.lemmas.Result.{err_from_is_err_and}
use Rattle.serde_json.specs.View.{view}
use Rattle.ob_domain.proofs.ReadingOfTrees.{domain_taken, only_wanting}
use Rattle.ob_domain.proofs.Steps.{same_ok}
use Rattle.ob_domain.proofs.TreesOfReading.{domain_read}
use Rattle.ob_domain.specs.Reading.{domain_from}
use Rattle.ob_domain.specs.Trees.{tree_of}
use Rattle.ob_domain.proofs.reading.read.Goals as goal

pub returns : goal.returns
returns c =
    let models = c.args.schema.now in let model = c.args.model in let d = view c.args.json.now in let own = tree_of c.in_ok-terms.terms.items in
    let told = c.in_ok-terms.ensures.told in
    let read : domain_from models model d ≡ Ok own = rw told refl in
    let law = domain_read models model d own read in
    let new = c.new.ensures in
    rw new record {
      stands = law.0;
      few = law.1;
      over = c.in_ok-terms.ensures.over;
      complete = λ tree stands few. same_ok own tree (sym read ∙ domain_taken models model d tree stands few);
      fault = tt;
    }

pub returns-in_err-terms-clause-complete : goal.returns-in_err-terms-clause-complete
returns-in_err-terms-clause-complete c =
    let models = c.args.schema.now in let model = c.args.model in let d = view c.args.json.now in
    let p = err_from_is_err_and c.from_residual.result c.from_residual.ensures.1 in
    rw (p.1, p.2) (λ tree stands few. only_wanting models model d tree _ c.in_err-terms.ensures.told stands few)
