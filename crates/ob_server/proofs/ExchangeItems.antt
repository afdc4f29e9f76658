-- The first items of a stream and what they are answered, with one item more.
use Rattle.std.proofs.Common.{◌≡◌, ℕ, ◌+◌, ◌≤◌, Bool, true, false, List, [], ◌∷◌, ◌++◌, length, refl, sym, ap, ◌∙◌, subst, arith, append_assoc, length-append}
use Rattle.std.specs.Prelude.{if◌then◌else◌, Vec}
use Rattle.std.specs.declared.alloc.Global.{Global}
use Rattle.std.proofs.lemmas.List.{append-nil}
use Rattle.ob_http.proofs.CallerLemmas.{item_of_its_bytes, message_takes_bytes}
use Rattle.ob_http.specs.Item.{Item, post, fault, ended, cut, IsItem, AreItems, last, more, TellsItem, goes_on, is_end, is_interim_due}
use Rattle.ob_http.specs.Reply.{interim_bytes, reply_bytes}
use Rattle.ob_http.specs.declared.inlet.Inlet.TheVariants.{Post, Ended, Cut, Bad}
use Rattle.ob_server.specs.Exchange.{AreFirstItems, answers_to, bodies_in}

-- one item more is one of the first
pub first_on : (bytes : List ℕ) (items : List Item) (mid : List ℕ) (item : Item) (rest : List ℕ) → AreFirstItems bytes items mid → IsItem mid item rest → goes_on item ≡ true
    → AreFirstItems bytes (items ++ item ∷ []) rest
first_on bytes [] mid item rest first is goes = (rest, subst (λ bs. IsItem bs item rest) (sym first) is, goes, refl)
first_on bytes (other ∷ items) mid item rest first is goes = (first.0, first.1, first.2, first_on first.0 items mid item rest first.3 is goes)

-- with one after which nothing comes they are all items
pub items_end : (bytes : List ℕ) (items : List Item) (mid : List ℕ) (item : Item) (rest : List ℕ) → AreFirstItems bytes items mid → IsItem mid item rest → goes_on item ≡ false
    → AreItems bytes (items ++ item ∷ [])
items_end bytes [] mid item rest first is stops = subst (λ bs. AreItems bs (item ∷ [])) (sym first) (last mid item rest is stops)
items_end bytes (other ∷ items) mid item rest first is stops = more bytes other first.0 (items ++ item ∷ []) first.1 first.2 (items_end first.0 items mid item rest first.3 is stops)

-- the bytes that first items took: at least one each, and by these they are the first whatever follows
pub record TakesFront (bytes : List ℕ) (items : List Item) (rest : List ℕ) : Type 0 where
  pub front : List ℕ
  pub bytes_are : bytes ≡ front ++ rest
  pub size : length items + length rest ≤ length bytes
  pub alone : (other : List ℕ) → AreFirstItems (front ++ other) items other

pub takes_front : (bytes : List ℕ) (items : List Item) (rest : List ℕ) → AreFirstItems bytes items rest → TakesFront bytes items rest
takes_front bytes [] rest first = record { front = []; bytes_are = first; size = omega (arith, ap length first); alone = λ other. refl }
takes_front bytes (item ∷ items) rest first =
    let taken = message_takes_bytes bytes first.0 item first.2 first.1 in
    let later = takes_front first.0 items rest first.3 in record {
      front = taken.0 ++ later.front;
      bytes_are = taken.2 ∙ ap (λ bs. taken.0 ++ bs) later.bytes_are ∙ sym (append_assoc taken.0 later.front rest);
      size = omega (arith, taken.1, later.size, ap length taken.2, length-append taken.0 first.0);
      alone = λ other. subst (λ bs. AreFirstItems bs (item ∷ items) other) (sym (append_assoc taken.0 later.front other)) (
        later.front ++ other,
        item_of_its_bytes taken.0 first.0 (later.front ++ other) item first.2 (subst (λ bs. IsItem bs item first.0) taken.2 first.1),
        first.2,
        later.alone other,
      );
    }

pub bodies_in-append : (items others : List Item) → bodies_in (items ++ others) ≡ bodies_in items ++ bodies_in others
bodies_in-append [] others = refl
bodies_in-append (post body keep interim ∷ items) others = ap (λ bodies. body ∷ bodies) (bodies_in-append items others)
bodies_in-append (fault status ∷ items) others = bodies_in-append items others
bodies_in-append (ended ∷ items) others = bodies_in-append items others
bodies_in-append (cut interim ∷ items) others = bodies_in-append items others

-- each of the first items has a body
pub bodies_count : (bytes : List ℕ) (items : List Item) (rest : List ℕ) → AreFirstItems bytes items rest → length (bodies_in items) ≡ length items
bodies_count bytes [] rest first = refl
bodies_count bytes (post body keep interim ∷ items) rest first = omega (arith, bodies_count first.0 items rest first.3)
bodies_count bytes (fault status ∷ items) rest first = absurd (let e = first.2 in let h : ⊥ = cc in h)
bodies_count bytes (ended ∷ items) rest first = absurd (let e = first.2 in let h : ⊥ = cc in h)
bodies_count bytes (cut interim ∷ items) rest first = absurd (let e = first.2 in let h : ⊥ = cc in h)

-- behind the answers to the first items stand those to what follows them
pub answers_to-append : (bytes : List ℕ) (items others : List Item) (rest : List ℕ) (replies further : List (List ℕ)) → AreFirstItems bytes items rest → length replies ≡ length items
    → answers_to (items ++ others) (replies ++ further) ≡ answers_to items replies ++ answers_to others further
answers_to-append bytes [] others rest [] further first same = refl
answers_to-append bytes [] others rest (reply ∷ replies) further first same = absurd (omega arith)
answers_to-append bytes (item ∷ items) others rest [] further first same = absurd (omega arith)
answers_to-append bytes (post body keep interim ∷ items) others rest (reply ∷ replies) further first same =
    let own = (if interim then interim_bytes else []) ++ reply_bytes 200 reply keep in
    ap (λ bs. own ++ bs) (answers_to-append first.0 items others rest replies further first.3 (omega (arith, same)))
    ∙ sym (append_assoc own (answers_to items replies) (answers_to others further))
answers_to-append bytes (fault status ∷ items) others rest (reply ∷ replies) further first same = absurd (let e = first.2 in let h : ⊥ = cc in h)
answers_to-append bytes (ended ∷ items) others rest (reply ∷ replies) further first same = absurd (let e = first.2 in let h : ⊥ = cc in h)
answers_to-append bytes (cut interim ∷ items) others rest (reply ∷ replies) further first same = absurd (let e = first.2 in let h : ⊥ = cc in h)

-- the interim line before an item
abbrev pub interim_of : Item → List ℕ
interim_of item = if is_interim_due item then interim_bytes else []

-- one item by itself: whether another follows, the bodies in it, and what it is answered
pub record StandsAlone (item : Item) (keep : Bool) (bodies replies : List (List ℕ)) (answer : List ℕ) : Type 0 where
  pub goes : goes_on item ≡ keep
  pub bodies_are : bodies_in (item ∷ []) ≡ bodies
  pub answer_is : answers_to (item ∷ []) replies ≡ interim_of item ++ answer

-- a message that came in
pub posted : (body : Vec ℕ Global) (keep : Bool) (item : Item) (reply : List ℕ) → TellsItem (Post body keep) item
    → StandsAlone item keep (body.items ∷ []) (reply ∷ []) (reply_bytes 200 reply keep)
posted body keep (post bytes stays interim) reply told =
    let line = if interim then interim_bytes else [] in record {
      goes = sym told.1;
      bodies_are = ap (λ bs. bs ∷ []) (sym told.0);
      answer_is = append-nil (line ++ reply_bytes 200 reply stays) ∙ ap (λ k. line ++ reply_bytes 200 reply k) (sym told.1);
    }
posted body keep (fault status) reply told = absurd told
posted body keep ended reply told = absurd told
posted body keep (cut interim) reply told = absurd told

-- a fault
pub faulted : (status : ℕ) (item : Item) → TellsItem (Bad status) item → StandsAlone item false [] [] (reply_bytes status [] false)
faulted status (post body keep interim) told = absurd told
faulted status (fault code) told = record { goes = refl; bodies_are = refl; answer_is = ap (λ (n : ℕ). reply_bytes n [] false) (sym told) }
faulted status ended told = absurd told
faulted status (cut interim) told = absurd told

-- an end
pub ends_alone : (item : Item) → is_end item ≡ true → StandsAlone item false [] [] []
ends_alone (post body keep interim) end = absurd (let h : ⊥ = cc in h)
ends_alone (fault status) end = absurd (let h : ⊥ = cc in h)
ends_alone ended end = record { goes = refl; bodies_are = refl; answer_is = refl }
ends_alone (cut interim) end = record { goes = refl; bodies_are = refl; answer_is = sym (append-nil (if interim then interim_bytes else [])) }

pub ended_is_end : (item : Item) → TellsItem Ended item → is_end item ≡ true
ended_is_end (post body keep interim) told = absurd told
ended_is_end (fault status) told = absurd told
ended_is_end ended told = refl
ended_is_end (cut interim) told = absurd told

pub cut_is_end : (item : Item) → TellsItem Cut item → is_end item ≡ true
cut_is_end (post body keep interim) told = absurd told
cut_is_end (fault status) told = absurd told
cut_is_end ended told = absurd told
cut_is_end (cut interim) told = refl
