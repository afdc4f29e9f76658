-- An object's other members, once one is taken out.
use Rattle.std.proofs.Common.{◌≡◌, ℕ, List, [], ◌∷◌, Bool, true, false, cond, Some, Global, String, string_bytes, nat_cmp, refl, sym, ap, ◌∙◌}
use Rattle.std.proofs.lemmas.Map.Text.{is_eq-slice_cmp}
use Rattle.std.proofs.lemmas.Slice.Eq.{bytes_eq-Decides}
use Rattle.std.specs.BTreeMap.{is_at}
use Rattle.std.specs.Cmp.Lexicographic.{slice_cmp}
use Rattle.std.specs.Map.{remove_entry}
use Rattle.std.specs.Ordering.{match_ordering}
use Rattle.serde_json.proofs.Views.{Entry, member_later}
use Rattle.serde_json.specs.Find.{get_member}
use Rattle.serde_json.specs.View.{view, members_view}

-- the test by which a map finds a key
abbrev pub is_key : List ℕ → String Global → Bool
is_key key = is_at (λ k. slice_cmp nat_cmp key (string_bytes k))

step : (b : Bool) (other key : List ℕ) (e : Entry) (es rest : List Entry) → (other ≡ key → ⊥) → (b ≡ true → key ≡ string_bytes e.0)
    → get_member other (members_view rest) ≡ get_member other (members_view es)
    → get_member other (members_view (cond b es (e ∷ rest))) ≡ get_member other (members_view (e ∷ es))
step true other key e es rest apart here same = sym (member_later other e es (λ h. apart (h ∙ sym (here refl))))
step false other key e es rest apart here same = ap (λ r. match_ordering (slice_cmp nat_cmp other (string_bytes e.0)) r (Some (view e.1)) r) same

pub get_member-remove_entry : (other key : List ℕ) (es : List Entry) → (other ≡ key → ⊥)
    → get_member other (members_view (remove_entry (is_key key) es)) ≡ get_member other (members_view es)
get_member-remove_entry other key [] apart = refl
get_member-remove_entry other key (e ∷ es) apart = step (is_key key e.0) other key e es _ apart (λ h. (bytes_eq-Decides key (string_bytes e.0)).0 (sym (is_eq-slice_cmp key (string_bytes e.0))
    ∙ h)) (get_member-remove_entry other key es apart)
