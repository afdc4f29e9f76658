-- What a binary search by name finds among fields in byte order of their names.
use Rattle.std.proofs.Common.{◌≡◌, ℕ, suc, ◌<◌, List, length, get_or, map, Result, option_map, ap, arith}
use Rattle.std.proofs.Math.ListN.{get_or-map}
use Rattle.std.proofs.lemmas.List.{length-map}
use Rattle.std.specs.Cmp.Lexicographic.{slice_cmp}
use Rattle.std.specs.List.Sorted.{IsBinarySearchResult, IsSearchInRange}
use Rattle.std.specs.Ordering.{nat_cmp}
use Rattle.std.specs.Result.{result_ok}
use Rattle.std.specs.declared.cmp.Ordering.{Ordering}
use Rattle.std.specs.declared.cmp.Ordering.TheVariants.{Less}
use Rattle.ob_base.specs.declared.id.FieldNo.{FieldNo}
use Rattle.ob_schema.specs.declared.info.FieldInfo.{FieldInfo}
use Rattle.ob_schema.specs.Models.{AreInOrder, field_named}
use Rattle.ob_schema.proofs.NameSearch.{searched as name_searched}

-- the number of a place
abbrev pub number_at : ℕ → FieldNo
number_at i = record { 0 = suc i }

module _ (fields : List FieldInfo) (ordered : AreInOrder (map (λ field. field.name) fields)) (name : List ℕ) where
  abbrev pub order : FieldInfo → Ordering
  order field = slice_cmp nat_cmp field.name name

  pub in_order : (i j : ℕ) (d : FieldInfo) → i < j → j < length fields → slice_cmp nat_cmp (get_or fields i d).name (get_or fields j d).name ≡ Less
  in_order i j d before inside =
      let named = λ (field : FieldInfo). field.name in
      let within : j < length (map named fields) = omega (arith, length-map fields named) in
      rw (get_or-map named fields i d, get_or-map named fields j d) at (ordered i j d.name before within)

  -- the search answers with the place of the field of that name
  pub searched : (r : Result ℕ ℕ) → IsSearchInRange r (length fields) → IsBinarySearchResult order fields r → field_named fields name ≡ option_map number_at (result_ok r)
  searched r within answer = ap (option_map number_at) (name_searched (λ (field : FieldInfo). field.name) fields in_order name r within answer)
