-- What is read of a term, and of a list of terms.
use Rattle.std.proofs.Common.{◌≡◌, ◌≢◌, ℕ, List, true, false, Ok, Some, map, [], ◌∷◌, ◌++◌, drop, length, refl, sym, ap, subst, ◌∙◌, arith}
use Rattle.std.proofs.lemmas.Grind.{common_steps}
use Rattle.std.proofs.lemmas.List.{map-append}
use Rattle.std.proofs.lemmas.Result.{err_from_is_err_and}
use Rattle.serde_json.specs.View.{view, items_view}
use Rattle.ob_domain.proofs.Lists.{IsReadTo-all, IsReadTo-more, list_broken, list_whole, listed-other, three_values}
use Rattle.ob_domain.proofs.Overs.{behind-over, items-over-more, signed-over, whole-over}
use Rattle.ob_domain.proofs.Rows.{any-item}
use Rattle.ob_domain.proofs.Told.{any_given, criterion_failed, criterion_given, told_fault, told_given, told_if, tree_told}
use Rattle.ob_domain.specs.Aims.{aim_of, link_at}
use Rattle.ob_domain.specs.Criteria.{criterion_item}
use Rattle.ob_schema.specs.Models.{HasField, HasModel}
use Rattle.ob_domain.specs.Over.{AreLinks, IsItemOver, IsOver, end_of}
use Rattle.ob_domain.specs.Reading.{are_whole, item_from, tree_from}
use Rattle.ob_domain.specs.Places.{IsCounted}
use Rattle.ob_domain.specs.Trees.{Item, any, item_of, leaf, signed, tree_of}
use Rattle.ob_base.specs.declared.id.FieldNo.{FieldNo}
use Rattle.ob_base.specs.declared.id.ModelNo.{ModelNo}
use Rattle.ob_domain.specs.Operators.{operator_of}
use Rattle.ob_domain.specs.declared.aim.Aim.{Aim}
use Rattle.ob_expr.specs.declared.typed.Link.{Link}
use Rattle.ob_domain.specs.declared.term.Term.{Term}
use Rattle.serde_json.proofs.Views.{view-Array}
use Rattle.serde_json.specs.Data.{Data, array}
use Rattle.serde_json.specs.declared.value.Value.{Value}
use Rattle.ob_domain.proofs.reading.Reader.+reading.Goals as goal
use Rattle.ob_domain.proofs.reading.Reader.+reading.Goals.{term-in_default-as_slice-via-then-as_slice-lt3, term-in_default-as_slice-via-else-as_slice-lt3+else-this-lt4}

pub any-returns-clause-told : goal.any-returns-clause-told
any-returns-clause-told t c =
    let models = c.args.self.now.schema.now in let aim = c.args.aim in let link = c.in_ok-link.link in let numbers = c.args.own.numbers.now in
    let leads = told_given (λ l. l) numbers c.link_at.result link (link_at models aim.field) c.link_at.ensures.link c.in_ok-link.ensures in
    let at : c.as_slice.result.now ≡ numbers ++ 2 ∷ [] = c.as_slice.ensures.value ∙ c.in_ok-numbers.ensures in
    let read = subst (λ (ns : List ℕ). tree_from models link.target ns c.args.left (view c.args.operand.now) ≡ Ok (tree_of c.in_ok-terms.terms.items, c.in_ok-terms.left)) at c.in_ok-terms.ensures.told in
    let linked : c.push.new.self.items ≡ link ∷ [] = grind (arith, common_steps) in
    let own = any-item c.args.sense c.push.new.self c.in_ok-terms.terms ∙ ap (λ (ls : List _). leaf (signed c.args.sense (any ls (tree_of c.in_ok-terms.terms.items)))) linked in
    any_given models numbers c.args.left c.in_ok-terms.left aim c.args.sense (λ target inner left. tree_from models target inner left (view c.args.operand.now)) link (tree_of c.in_ok-terms.terms.items)
    (item_of c.in_ok-behind.field-0) leads read (c.in_ok-behind.ensures (signed c.args.sense (any (link ∷ []) (tree_of c.in_ok-terms.terms.items))) own)

pub any-returns-clause-over : goal.any-returns-clause-over
any-returns-clause-over t c =
    let models = c.args.self.now.schema.now in let aim = c.args.aim in let link = c.in_ok-link.link in
    let linked : c.push.new.self.items ≡ link ∷ [] = grind (arith, common_steps) in
    let tree = signed c.args.sense (any (link ∷ []) (tree_of c.in_ok-terms.terms.items)) in
    let own = any-item c.args.sense c.push.new.self c.in_ok-terms.terms ∙ ap (λ (ls : List _). leaf (signed c.args.sense (any ls (tree_of c.in_ok-terms.terms.items)))) linked in
    let whole = c.in_ok-behind.ensures tree own in
    let numbers = c.args.own.numbers.now in
    let same = told_if (λ (l : Link). l.field ≡ aim.field.field) numbers c.link_at.result link c.link_at.ensures.own c.in_ok-link.ensures in
    let target = told_if (λ (l : Link). HasModel models l.target) numbers c.link_at.result link c.link_at.ensures.there c.in_ok-link.ensures in
    let end = end_of c.args.own.model aim.links in
    let field : HasField models end link.field = subst (λ (f : FieldNo). HasField models end f) (sym same) (subst (λ (m : ModelNo). HasField models m aim.field.field) (sym c.requires.end) c.requires.field) in
    let inner = signed-over models end c.args.sense (any (link ∷ []) (tree_of c.in_ok-terms.terms.items)) ((field, target, tt), c.in_ok-terms.ensures.over) in
    subst (λ (i : Item). IsItemOver models c.args.own.model i) (sym whole) (behind-over models c.args.own.model aim.links tree c.requires.links inner)

pub criterion-returns-in_err-term-in_default-operator-clause-told : goal.criterion-returns-in_err-term-in_default-operator-clause-told
criterion-returns-in_err-term-in_default-operator-clause-told t c =
    let p = err_from_is_err_and c.from_residual-in_err-term-in_default-operator.result c.from_residual-in_err-term-in_default-operator.ensures.1 in
    let models = c.args.self.now.schema.now in let aim = c.in_ok-aim.aim in let numbers = c.args.own.numbers.now in let d = view c.args.operand.now in
    let aims = told_given (λ a. a) numbers c.aim_of.result aim (aim_of models c.args.own.model c.args.asked.name.now) c.aim_of.ensures.aim c.in_ok-aim.ensures in
    let known_as : operator_of c.args.asked.operator.now ≡ Some (c.in-Some.sense, c.in-Some.operator) = cc in
    rw (p.1, p.2) (λ known. criterion_failed models c.args.own.model numbers c.args.left c.args.asked.name.now c.args.asked.operator.now d (λ target inner left. tree_from models target inner left d) aim c.in-Some.sense
    c.in-Some.operator _ aims known_as c.in_default-operator.not-Any
    (told_fault item_of numbers c.criterion_of-term.result _ (criterion_item models aim.field c.in-Some.sense c.in-Some.operator d) c.criterion_of-term.ensures.told c.in_err-term-in_default-operator.ensures known))

pub criterion-returns-in_ok-behind-in_default-operator-clause-told : goal.criterion-returns-in_ok-behind-in_default-operator-clause-told
criterion-returns-in_ok-behind-in_default-operator-clause-told t c =
    let models = c.args.self.now.schema.now in let aim = c.in_ok-aim.aim in let numbers = c.args.own.numbers.now in let d = view c.args.operand.now in
    let aims = told_given (λ a. a) numbers c.aim_of.result aim (aim_of models c.args.own.model c.args.asked.name.now) c.aim_of.ensures.aim c.in_ok-aim.ensures in
    let known_as : operator_of c.args.asked.operator.now ≡ Some (c.in-Some.sense, c.in-Some.operator) = cc in
    let term = c.in_ok-term-in_default-operator.term in
    criterion_given models c.args.own.model numbers c.args.left c.args.asked.name.now c.args.asked.operator.now d (λ target inner left. tree_from models target inner left d) aim c.in-Some.sense c.in-Some.operator
    (item_of term) (item_of c.in_ok-behind-in_default-operator.field-0) aims known_as c.in_default-operator.not-Any
    (told_given item_of numbers c.criterion_of-term.result term (criterion_item models aim.field c.in-Some.sense c.in-Some.operator d) c.criterion_of-term.ensures.told c.in_ok-term-in_default-operator.ensures)
    (λ tree is. c.in_ok-behind-in_default-operator.ensures tree is)

pub criterion-returns-in_ok-behind-in_default-operator-clause-over : goal.criterion-returns-in_ok-behind-in_default-operator-clause-over
criterion-returns-in_ok-behind-in_default-operator-clause-over t c =
    let models = c.args.self.now.schema.now in let aim = c.in_ok-aim.aim in let numbers = c.args.own.numbers.now in let d = view c.args.operand.now in let model = c.args.own.model in
    let term = c.in_ok-term-in_default-operator.term in
    let told = told_given item_of numbers c.criterion_of-term.result term (criterion_item models aim.field c.in-Some.sense c.in-Some.operator d) c.criterion_of-term.ensures.told c.in_ok-term-in_default-operator.ensures in
    let tree = tree_told models numbers aim c.in-Some.sense c.in-Some.operator d (item_of term) told in
    let whole = c.in_ok-behind-in_default-operator.ensures tree.0 (sym tree.2) in
    let own = told_if (λ (x : Term). IsItemOver models aim.field.model (item_of x)) numbers c.criterion_of-term.result term c.criterion_of-term.ensures.over c.in_ok-term-in_default-operator.ensures in
    let links = told_if (λ (a : Aim). AreLinks models model a.links) numbers c.aim_of.result aim c.aim_of.ensures.links c.in_ok-aim.ensures in
    let end = told_if (λ (a : Aim). end_of model a.links ≡ a.field.model) numbers c.aim_of.result aim c.aim_of.ensures.end c.in_ok-aim.ensures in
    let inner = subst (λ (m : ModelNo). IsOver models m tree.0) (sym end) (subst (λ (i : Item). IsItemOver models aim.field.model i) (sym tree.2) own) in
    subst (λ (i : Item). IsItemOver models model i) (sym whole) (behind-over models model aim.links tree.0 links inner)

pub term-returns-in-len3-clause-told : goal.term-returns-in-len3-clause-told
term-returns-in-len3-clause-told t c =
    let models = c.args.self.now.schema.now in let vs = c.as_slice.result.now in
    let three = three_values vs c.first-item.result c.operator-item.result c.operand-item.result c.in-len3.len_at_least c.in-len3.len_below c.first-item.is c.operator-item.is c.operand-item.is in
    let same : view c.args.json.now ≡ array (items_view (c.first-item.result ∷ c.operator-item.result ∷ c.operand-item.result ∷ [])) =
    ap view c.in-Array.is ∙ view-Array c.in-Array.items ∙ ap (λ (xs : List Value). array (items_view xs)) (sym c.as_slice.ensures.value ∙ three) in
    subst (λ (d : Data). IsCounted item_of c.three.result (item_from models c.args.within.model c.args.within.numbers.now c.args.number c.args.left d)) (sym same) c.three.ensures.told

pub term-returns-in_default-as_slice-clause-told : goal.term-returns-in_default-as_slice-clause-told
term-returns-in_default-as_slice-clause-told t c = λ known.
    let models = c.args.self.now.schema.now in let vs = c.as_slice.result.now in
    let other : length vs ≢ 3 = λ e. elim c.in_default-as_slice.branch [
      | term-in_default-as_slice-via-then-as_slice-lt3 w ↦ grind (arith, common_steps)
      | term-in_default-as_slice-via-else-as_slice-lt3+else-this-lt4 w ↦ grind (arith, common_steps)
    ] in
    let same : view c.args.json.now ≡ array (items_view vs) =
    ap view c.in-Array.is ∙ view-Array c.in-Array.items ∙ ap (λ (xs : List Value). array (items_view xs)) (sym c.as_slice.ensures.value) in
    let told = listed-other models c.args.within.model c.args.within.numbers.now c.args.number c.args.left vs other in
    let shape = c.shape.ensures known in
    rw (same, told, shape) refl

pub terms-loop-number-preserved : goal.terms-loop-number-preserved
terms-loop-number-preserved t c =
    let models = c.args.self.now.schema.now in let term = c.in_ok-term.term in
    let pushed : map item_of c.push.new.self.items ≡ map item_of c.loop-number.terms.items ++ item_of term ∷ [] =
    ap (map item_of) c.in_ok-push.ensures.items ∙ map-append item_of c.loop-number.terms.items (term ∷ []) in
    rw pushed record {
      told = IsReadTo-more models c.args.within.model c.args.within.numbers.now c.args.left c.deref-item-items.result.now c.loop-number.number (map item_of c.loop-number.terms.items) c.loop-number.left
          c.in_ok-term.rest c.item-item.result (item_of term) c.loop-number-test.true c.item-item.is c.in_ok-term.ensures.told c.loop-number.invariant.told;
      over = items-over-more models c.args.within.model (map item_of c.loop-number.terms.items) (item_of term) c.loop-number.invariant.over c.in_ok-term.ensures.over;
    }

pub terms-returns-then-not-are_whole-clause-told : goal.terms-returns-then-not-are_whole-clause-told
terms-returns-then-not-are_whole-clause-told t c = λ known.
    let models = c.args.self.now.schema.now in let vs = c.deref-item-items.result.now in let numbers = c.args.within.numbers.now in
    let end : drop c.loop-number.number vs ≡ [] = grind (arith, common_steps) in
    let read = IsReadTo-all models c.args.within.model numbers c.args.left vs c.loop-number.number (map item_of c.loop-number.terms.items) c.loop-number.left end c.loop-number.invariant.told in
    let broken : are_whole (map item_of c.loop-number.terms.items) ≡ false =
    ap (λ (ts : List Term). are_whole (map item_of ts)) (sym c.as_slice.ensures.value) ∙ sym c.are_whole.ensures ∙ c.if-not-are_whole.true in
    let same : view c.args.json.now ≡ array (items_view vs) =
    ap view c.in-Array.is ∙ view-Array c.in-Array.items ∙ ap (λ (xs : List Value). array (items_view xs)) (sym c.deref-item-items.ensures.value) in
    let told = list_broken models c.args.within.model numbers c.args.left vs (map item_of c.loop-number.terms.items) c.loop-number.left read broken in
    let shape = c.shape-then-not-are_whole.ensures known in
    rw (same, told, shape) refl

pub terms-returns-clause-told : goal.terms-returns-clause-told
terms-returns-clause-told t c =
    let models = c.args.self.now.schema.now in let vs = c.deref-item-items.result.now in let numbers = c.args.within.numbers.now in
    let end : drop c.loop-number.number vs ≡ [] = grind (arith, common_steps) in
    let read = IsReadTo-all models c.args.within.model numbers c.args.left vs c.loop-number.number (map item_of c.loop-number.terms.items) c.loop-number.left end c.loop-number.invariant.told in
    let whole : are_whole (map item_of c.loop-number.terms.items) ≡ true =
    ap (λ (ts : List Term). are_whole (map item_of ts)) (sym c.as_slice.ensures.value) ∙ sym c.are_whole.ensures ∙ c.if-not-are_whole.false in
    let same : view c.args.json.now ≡ array (items_view vs) =
    ap view c.in-Array.is ∙ view-Array c.in-Array.items ∙ ap (λ (xs : List Value). array (items_view xs)) (sym c.deref-item-items.ensures.value) in
    rw same (list_whole models c.args.within.model numbers c.args.left vs (map item_of c.loop-number.terms.items) c.loop-number.left read whole)

pub terms-returns-clause-over : goal.terms-returns-clause-over
terms-returns-clause-over t c = whole-over c.args.self.now.schema.now c.args.within.model (map item_of c.loop-number.terms.items) c.loop-number.invariant.over
