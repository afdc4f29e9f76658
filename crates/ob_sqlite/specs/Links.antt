-- The links of a row that a keeper answers.
use Rattle.std.specs.Prelude.{List, All}
use Rattle.std.specs.List.Sorted.{IsStrictlySortedBy}
use Rattle.ob_io.specs.declared.store.Link.{Link}
use Rattle.ob_io.specs.Store.{link_cmp, Fits63}

-- they rise by field, then target, and their targets are below 2^63
pub record AreLinks (links : List Link) : Type 0 where
  pub rising : IsStrictlySortedBy link_cmp links
  pub targets : All (λ link. Fits63 link.target.0) links
