-- How high nodes stand: the least of a limit and the longest chain, and how a pass raises the limit by one.
use Rattle.std.proofs.Common.{◌≡◌, ℕ, suc, ◌+◌, ◌<◌, ◌≤◌, List, length, get_or, set, get_or-set_other, get_or-set_same, ◌≢◌, Some, replicate, inl, inr, refl, sym, subst, ◌∙◌, arith}
use Rattle.std.proofs.lemmas.Bool.{cases_lt}
use Rattle.std.proofs.lemmas.List.{get_or-replicate, get_or_past, length-replicate, length-set}
use Rattle.std.proofs.lemmas.Option.{get_or_from_slice_get, slice_get-get_or, slice_get_read, slice_get_within}
use Rattle.std.proofs.lemmas.List.Elements.{Contains-get_or, at_from_Contains}
use Rattle.std.specs.Prelude.{Contains, Vec, slice_get}
use Rattle.std.specs.declared.alloc.Global.{Global}
use Rattle.ob_schema.specs.Chains.{HasChain}
use Rattle.ob_registry.specs.Graphs.{AreHeights, NodeReads}
use Rattle.ob_registry.proofs.Circles.{HasChain-shorter}

-- what a node reads is in its row
pub NodeReads-from : (reads : List (Vec ℕ Global)) (a b : ℕ) (row : Vec ℕ Global) → slice_get reads a ≡ Some row → Contains row.items b → NodeReads reads a b
NodeReads-from reads a b row is among = rw is among

-- and the other way round
pub Contains-from_reads : (reads : List (Vec ℕ Global)) (a b : ℕ) (row : Vec ℕ Global) → slice_get reads a ≡ Some row → NodeReads reads a b → Contains row.items b
Contains-from_reads reads a b row is among = rw is at among

-- by the place in its row
pub NodeReads-place : (reads : List (Vec ℕ Global)) (a : ℕ) (row : Vec ℕ Global) (items : List ℕ) → a < length reads → row ≡ get_or reads a row → items ≡ row.items → (k : ℕ) → k < length items
    → NodeReads reads a (get_or items k 0)
NodeReads-place reads a row items inside is same k within =
    NodeReads-from reads a (get_or items k 0) row (slice_get_read reads (length reads) a row refl inside is) (subst (λ (l : List ℕ). Contains l (get_or items k 0)) same (Contains-get_or items k 0 within))

-- each is at a place
pub place_of_read : (reads : List (Vec ℕ Global)) (a : ℕ) (row : Vec ℕ Global) (items : List ℕ) → a < length reads → row ≡ get_or reads a row → items ≡ row.items → (b : ℕ) → NodeReads reads a b
    → (k : ℕ) × (k < length items) × (get_or items k 0 ≡ b)
place_of_read reads a row items inside is same b among =
    let held = at_from_Contains items b (subst (λ (l : List ℕ). Contains l b) (sym same) (Contains-from_reads reads a b row (slice_get_read reads (length reads) a row refl inside is) among)) in
    (held.0, held.1, held.2 0)

-- a node has chains up to its height, and no others within the limit
pub record IsHeight (Follows : ℕ → ℕ → Type 0) (limit a height : ℕ) : Type 0 where
  pub low : height ≤ limit
  pub most : (n : ℕ) → n ≤ limit → HasChain Follows n a → n ≤ height
  pub has : (n : ℕ) → n ≤ height → HasChain Follows n a

module _ (Follows : ℕ → ℕ → Type 0) where
  -- a node that reads one with a chain of the height below is raised
  pub IsHeight-raised : (k a b height : ℕ) → height ≡ suc k → Follows a b → HasChain Follows k b → IsHeight Follows (suc k) a height
  IsHeight-raised k a b height is follows chain = record {
    low = omega arith;
    most = λ n le chain. omega arith;
    has = λ n le. HasChain-shorter Follows (suc k) n a (omega arith) (b, follows, chain);
  }

  -- any other keeps its height
  pub IsHeight-kept : (k a height : ℕ) → IsHeight Follows k a height → ((b : ℕ) → Follows a b → HasChain Follows k b → ⊥) → IsHeight Follows (suc k) a height
  IsHeight-kept k a height was none = record {
    low = omega (arith, was.low);
    most = λ n le chain. elim (cases_lt k n) as (λ _. n ≤ height) [
      | inl above ↦ (let e : n ≡ suc k = omega arith in let long : HasChain Follows (suc k) a = subst (λ (m : ℕ). HasChain Follows m a) e chain in absurd (none long.0 long.1 long.2))
      | inr within ↦ was.most n within chain
    ];
    has = was.has;
  }

module _ (reads : List (Vec ℕ Global)) (limit : ℕ) (heights : List ℕ) where
  -- one by one, and all together
  pub IsHeight-among : AreHeights reads limit heights → (a : ℕ) → a < length heights → IsHeight (NodeReads reads) limit a (get_or heights a 0)
  IsHeight-among are a inside =
      let is = slice_get-get_or heights a 0 inside in
      let low : get_or heights a 0 ≤ limit = are.low a (get_or heights a 0) is in
      record {
        low = low;
        most = λ n le chain. (are.each a (get_or heights a 0) n is le).0 chain;
        has = λ n le. (are.each a (get_or heights a 0) n is (omega arith)).1 le;
      }

  -- and all together from each
  pub AreHeights-from : length heights ≡ length reads → ((a : ℕ) → a < length heights → IsHeight (NodeReads reads) limit a (get_or heights a 0)) → AreHeights reads limit heights
  AreHeights-from count each =
      let at : (a height : ℕ) → slice_get heights a ≡ Some height → IsHeight (NodeReads reads) limit a height =
      λ a height is. subst (λ (h : ℕ). IsHeight (NodeReads reads) limit a h) (get_or_from_slice_get heights a height 0 is) (each a (slice_get_within heights a height is)) in
      record {
        count = count;
        low = λ a height is. (at a height is).low;
        each = λ a height n is le. (λ chain. (at a height is).most n le chain, λ low. (at a height is).has n low);
      }

-- each is 0
zero_at : (n a : ℕ) → a < length (replicate {A = ℕ} n 0) → get_or (replicate {A = ℕ} n 0) a 0 ≡ 0
zero_at n a inside = get_or-replicate n a 0 0 (let e = length-replicate {A = ℕ} n 0 in omega arith)

-- before the first pass
pub AreHeights-none : (reads : List (Vec ℕ Global)) → AreHeights reads 0 (replicate (length reads) 0)
AreHeights-none reads =
    AreHeights-from reads 0 (replicate (length reads) 0) (length-replicate {A = ℕ} (length reads) 0)
    (λ a inside. subst (λ (h : ℕ). IsHeight (NodeReads reads) 0 a h) (sym (zero_at (length reads) a inside)) (record {
      low = omega arith;
      most = λ n le chain. le;
      has = λ n le. HasChain-shorter (NodeReads reads) 0 n a le tt;
    }))

-- the heights while a pass raises the limit to one more, up to a node
pub record IsRaisedUpto (reads : List (Vec ℕ Global)) (k node : ℕ) (heights : List ℕ) : Type 0 where
  pub count : length heights ≡ length reads
  pub done : (a : ℕ) → a < node → IsHeight (NodeReads reads) (suc k) a (get_or heights a 0)
  pub rest : (a : ℕ) → node ≤ a → a < length heights → IsHeight (NodeReads reads) k a (get_or heights a 0)

module _ (reads : List (Vec ℕ Global)) (k node : ℕ) (heights : List ℕ) (raised : IsRaisedUpto reads k node heights) where
  -- whether a node has a chain of the height below is told by its height, raised or not
  chain-by_height : (b : ℕ) → b < length heights → k ≤ get_or heights b 0 → HasChain (NodeReads reads) k b
  chain-by_height b inside le = elim (cases_lt b node) as (λ _. HasChain (NodeReads reads) k b) [
    | inl before ↦ (raised.done b before).has k le
    | inr behind ↦ (raised.rest b behind inside).has k le
  ]

  -- and its height is told by its chains
  height-by_chain : (b : ℕ) → b < length heights → HasChain (NodeReads reads) k b → k ≤ get_or heights b 0
  height-by_chain b inside chain = elim (cases_lt b node) as (λ _. k ≤ get_or heights b 0) [
    | inl before ↦ (raised.done b before).most k (omega arith) chain
    | inr behind ↦ (raised.rest b behind inside).most k (omega arith) chain
  ]

  -- none is above the limit
  pub heights_low : (b : ℕ) → get_or heights b 0 ≤ suc k
  heights_low b = elim (cases_lt b (length heights)) as (λ _. get_or heights b 0 ≤ suc k) [
    | inl inside ↦ (elim (cases_lt b node) as (λ _. get_or heights b 0 ≤ suc k) [
      | inl before ↦ (raised.done b before).low
      | inr behind ↦ (let low = (raised.rest b behind inside).low in omega arith)
    ])
    | inr past ↦ (let none = get_or_past heights b 0 past in omega arith)
  ]

  -- a node that is raised
  pub IsRaisedUpto-raised : (b height : ℕ) → node < length heights → b < length heights → height ≡ suc k → NodeReads reads node b → height ≤ get_or heights b 0 + 1
      → IsRaisedUpto reads k (node + 1) (set heights node height)
  IsRaisedUpto-raised b height inside within is follows high = record {
    count = length-set heights node height ∙ raised.count;
    done = λ a before. elim (cases_lt a node) as (λ _. IsHeight (NodeReads reads) (suc k) a (get_or (set heights node height) a 0)) [
      | inl lower ↦ (let other : a ≢ node = omega arith in rw get_or-set_other (raised.done a lower))
      | inr same ↦ (let e : node ≡ a = omega arith in
          subst (λ (n : ℕ). IsHeight (NodeReads reads) (suc k) n (get_or (set heights node height) n 0)) e (rw get_or-set_same (IsHeight-raised (NodeReads reads) k node b height is follows (chain-by_height b within (omega arith)))))
    ];
    rest = λ a behind short. (let other : a ≢ node = omega arith in rw get_or-set_other (raised.rest a (omega arith) (let e = length-set heights node height in omega arith)));
  }

  -- a node that keeps its height
  pub IsRaisedUpto-kept : (height : ℕ) → node < length heights → ((b : ℕ) → NodeReads reads node b → b < length heights) → height ≡ suc k
      → ((b : ℕ) → NodeReads reads node b → height ≤ get_or heights b 0 + 1 → ⊥) → IsRaisedUpto reads k (node + 1) heights
  IsRaisedUpto-kept height inside within is none = record {
    count = raised.count;
    done = λ a before. elim (cases_lt a node) as (λ _. IsHeight (NodeReads reads) (suc k) a (get_or heights a 0)) [
      | inl lower ↦ raised.done a lower
      | inr same ↦ (let e : node ≡ a = omega arith in
          subst (λ (n : ℕ). IsHeight (NodeReads reads) (suc k) n (get_or heights n 0)) e
          (IsHeight-kept (NodeReads reads) k node (get_or heights node 0) (raised.rest node (omega arith) inside)
          (λ b follows chain. none b follows (let high = height-by_chain b (within b follows) chain in omega arith))))
    ];
    rest = λ a behind short. raised.rest a (omega arith) short;
  }

-- before a pass, and behind it
pub IsRaisedUpto-none : (reads : List (Vec ℕ Global)) (k : ℕ) (heights : List ℕ) → AreHeights reads k heights → IsRaisedUpto reads k 0 heights
IsRaisedUpto-none reads k heights are = record {
  count = are.count;
  done = λ a before. absurd (omega arith);
  rest = λ a behind inside. IsHeight-among reads k heights are a inside;
}

-- behind a pass the limit is one more
pub AreHeights-raised : (reads : List (Vec ℕ Global)) (k node height : ℕ) (heights : List ℕ) → IsRaisedUpto reads k node heights → length heights ≤ node → height ≡ suc k → AreHeights reads height heights
AreHeights-raised reads k node height heights raised all is =
    subst (λ (limit : ℕ). AreHeights reads limit heights) (sym is) (AreHeights-from reads (suc k) heights raised.count (λ a inside. raised.done a (omega arith)))
