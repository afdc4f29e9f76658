-- Reading the pieces of an order, one after another.
use Rattle.std.proofs.Common.{◌≡◌, ℕ, ◌+◌, ◌<◌, List, [], ◌∷◌, ◌++◌, length, get_or, Option, Some, sym, ap, refl}
use Rattle.ob_definition.specs.declared.orders.OrderEntry.{OrderEntry}
use Rattle.ob_definition.specs.Orders.{Term, term_of, term_of_entry, terms_of, words}
use Rattle.ob_definition.proofs.ReadForms.{IsReadTo, IsReadTo-more}

-- the term of a piece
abbrev pub term_in : List ℕ → Option Term
term_in piece = term_of (words piece)

terms_of-push : (entries : List OrderEntry) (entry : OrderEntry) → terms_of (entries ++ entry ∷ []) ≡ terms_of entries ++ term_of_entry entry ∷ []
terms_of-push [] entry = refl
terms_of-push (first ∷ entries) entry = ap (λ (terms : List Term). term_of_entry first ∷ terms) (terms_of-push entries entry)

-- one more entry
pub IsReadTo-entry : (items : List (List ℕ)) (i n : ℕ) (entries new : List OrderEntry) (piece : List ℕ) (entry : OrderEntry)
    → (i < length items) × (piece ≡ get_or items i piece) → Some (term_of_entry entry) ≡ term_in piece → new ≡ entries ++ entry ∷ [] → n ≡ i + 1
    → IsReadTo term_in items i (terms_of entries) → IsReadTo term_in items n (terms_of new)
IsReadTo-entry items i n entries new piece entry at given pushed next read =
    rw (next, pushed, terms_of-push entries entry) (IsReadTo-more term_in items i (terms_of entries) piece (term_of_entry entry) at.0 at.1 (sym given) read)
