-- What an object of values gives, member by member.
use Rattle.std.proofs.Common.{◌≡◌, ℕ, ◌≤◌, List, [], ◌∷◌, ◌++◌, Vec, Global, sym, subst, arith}
use Rattle.std.specs.Prelude.{All}
use Rattle.std.proofs.lemmas.List.Elements.{All-nil, All-push}
use Rattle.ob_base.specs.declared.id.FieldNo.{FieldNo}
use Rattle.ob_base.specs.declared.id.ModelNo.{ModelNo}
use Rattle.ob_base.specs.declared.value.Value.{Value}
use Rattle.ob_effect.specs.Objects.{AreTypedOrders, IsObjectFor, IsTypedValue, KeepsDepth, deepest, deepest_of}
use Rattle.ob_effect.specs.declared.object.Object.{Object}
use Rattle.ob_effect.specs.declared.object.Orders.{Orders}
use Rattle.ob_schema.specs.declared.info.ModelInfo.{ModelInfo}

-- ---- members

-- ---- lists of commands

-- one list of commands more
pub deepest_more : (os : List Orders) (o : Orders) (most : ℕ) → deepest_of os ≤ most → deepest o.commands ≤ most → deepest_of (os ++ o ∷ []) ≤ most
deepest_more [] o most low own = omega arith
deepest_more (x ∷ os) o most low own =
    let more = deepest_more os o most (omega arith) own in
    omega arith

pub depth_more : (bound : ℕ) (a : Object) (orders : Vec Orders Global) (o : Orders) → orders.items ≡ a.orders.items ++ o ∷ [] → deepest o.commands ≤ bound → KeepsDepth bound a (record a { orders = orders })
depth_more bound a orders o is own most within low =
    subst (λ (os : List Orders). deepest_of os ≤ most) (sym is) (deepest_more a.orders.items o most low (omega arith))

-- ---- what fits

module _ (models : List ModelInfo) (model : ModelNo) where
  -- nothing is given
  pub nothing_fits : (a : Object) → a.values.items ≡ [] → a.orders.items ≡ [] → IsObjectFor models model a
  nothing_fits a no_values no_orders = record {
    values = subst (All (IsTypedValue models model)) (sym no_values) (All-nil (IsTypedValue models model));
    orders = subst (All (AreTypedOrders models model)) (sym no_orders) (All-nil (AreTypedOrders models model));
  }

  -- one value more
  pub value_fits : (a : Object) (values : Vec (FieldNo × Value) Global) (one : FieldNo × Value) → values.items ≡ a.values.items ++ one ∷ [] → IsTypedValue models model one
      → IsObjectFor models model a → IsObjectFor models model (record a { values = values })
  value_fits a values one is own fits = record {
    values = subst (All (IsTypedValue models model)) (sym is) (All-push (IsTypedValue models model) a.values.items one fits.values own);
    orders = fits.orders;
  }

  -- commands on one list more
  pub orders_fit : (a : Object) (orders : Vec Orders Global) (one : Orders) → orders.items ≡ a.orders.items ++ one ∷ [] → AreTypedOrders models model one
      → IsObjectFor models model a → IsObjectFor models model (record a { orders = orders })
  orders_fit a orders one is own fits = record {
    values = fits.values;
    orders = subst (All (AreTypedOrders models model)) (sym is) (All-push (AreTypedOrders models model) a.orders.items one fits.orders own);
  }
