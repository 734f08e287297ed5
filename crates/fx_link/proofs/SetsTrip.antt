-- The sets that are lent for a message are those of the definition.
use Rattle.std.proofs.Common.{◌≡◌, ℕ, ◌+◌, ◌≤◌, ◌<◌, Bool, true, false, cond, lt-ltb, le-ltb, List, [], ◌∷◌, ◌++◌, length, map, get_or, ap, sym, ◌∙◌, subst, arith, Result, Ok, Err}
use Rattle.std.specs.Prelude.{nat_lt, OnOk}
use Rattle.std.specs.Borrow.{Bor}
use Rattle.std.specs.List.{position_or_len}
use Rattle.fx_layout.specs.Keys.{Layout, same_layout}
use Rattle.fx_tables.specs.declared.record.Record.{Record}
use Rattle.fx_wire.specs.Sets.{SetParts, set_parts}
use Rattle.fx_wire.specs.Writing.{message_length, message_octets}
use Rattle.fx_wire.specs.declared.header.Header.{Header}
use Rattle.fx_wire.specs.declared.set.Set.{Set}
use Rattle.fx_link.specs.Records.{records_octets, template_octets}
use Rattle.fx_link.specs.Sending.{layout_of, knows, template_id, message_sets, IsBatch}
use Rattle.fx_link.proofs.BatchTrip.{sets_few}

-- ---- the sets of a batch

first_layout : (batch : List Record) (first : Record) → 1 ≤ length batch → first ≡ get_or batch 0 first
    → layout_of batch ≡ first.key.layout
first_layout [] first h e = absurd (omega arith)
first_layout (r ∷ rs) first h e = ap (λ (x : Record). x.key.layout) (sym e)

-- what is known of a batch's layout, and of its place among those that were used
pub record Placed (layouts : List Layout) (batch : List Record) (layout : Layout) (place : ℕ) : Type 0 where
  pub layout_is : layout_of batch ≡ layout
  pub place_is : place ≡ position_or_len (same_layout layout) layouts
  pub bound : place ≤ length layouts
  pub known : knows layouts layout ≡ nat_lt place (length layouts)

pub placed : (layouts own : List Layout) (batch : List Record) (first : Record) (layout : Layout) (place : ℕ) → own
    ≡ layouts → 1 ≤ length batch → first ≡ get_or batch 0 first → layout ≡ first.key.layout
    → place ≡ position_or_len (same_layout layout) own → place ≤ length own → knows own layout
    ≡ nat_lt place (length own) → Placed layouts batch layout place
placed layouts own batch first layout place o some f l p b k =
    subst (λ (ls : List Layout). Placed ls batch layout place) o
    (record { layout_is = first_layout batch first some f ∙ sym l; place_is = p; bound = b; known = k })

pub alone : (layouts : List Layout) (batch : List Record) (layout : Layout) (place : ℕ) (content : Bor (List ℕ))
    → Placed layouts batch layout place → place < length layouts → content.now ≡ records_octets batch
    → map set_parts (record { id = 256 + place; content = content } ∷ []) ≡ message_sets layouts batch
alone layouts batch layout place content p h e =
    let known : knows layouts (layout_of batch) ≡ true = ap (knows layouts) p.layout_is ∙ p.known
    ∙ lt-ltb place (length layouts) h in
    let id : 256 + place ≡ template_id layouts (layout_of batch) = ap (λ (n : ℕ). 256 + n) p.place_is
    ∙ ap (template_id layouts) (sym p.layout_is) in
    ap (λ (n : ℕ). let s : List SetParts = record { id = n; content = content.now } ∷ [] in s) id
    ∙ ap (λ (l : List ℕ). let s : List SetParts = record { id = template_id layouts (layout_of batch); content = l }
    ∷ [] in s) e
    ∙ sym (ap (λ (t : Bool). cond t [] (record
    { id = 2; content = template_octets (256 + length layouts) (layout_of batch) } ∷ [])
    ++ record { id = template_id layouts (layout_of batch); content = records_octets batch } ∷ []) known)

pub behind : (layouts : List Layout) (batch : List Record) (layout : Layout) (place : ℕ)
    (content template : Bor (List ℕ)) → Placed layouts batch layout place → length layouts ≤ place → content.now
    ≡ records_octets batch
    → template.now ≡ template_octets (256 + place) layout
    → map set_parts (record { id = 2; content = template } ∷ record { id = 256 + place; content = content } ∷ [])
    ≡ message_sets layouts batch
behind layouts batch layout place content template p h e t =
    let new : knows layouts (layout_of batch) ≡ false = ap (knows layouts) p.layout_is ∙ p.known
    ∙ le-ltb place (length layouts) h in
    let id : 256 + place ≡ template_id layouts (layout_of batch) = ap (λ (n : ℕ). 256 + n) p.place_is
    ∙ ap (template_id layouts) (sym p.layout_is) in
    let last : place ≡ length layouts = (let b : place ≤ length layouts = p.bound in omega arith) in
    ap (λ (l : List ℕ). let s : List SetParts = record { id = 2; content = l }
    ∷ record { id = 256 + place; content = content.now } ∷ [] in s)
    (t ∙ ap (λ (n : ℕ). template_octets (256 + n) layout) last
    ∙ ap (template_octets (256 + length layouts)) (sym p.layout_is))
    ∙ ap (λ (n : ℕ). let s : List SetParts =
    record { id = 2; content = template_octets (256 + length layouts) (layout_of batch) }
    ∷ record { id = n; content = content.now } ∷ [] in s) id
    ∙ ap (λ (l : List ℕ). let s : List SetParts =
    record { id = 2; content = template_octets (256 + length layouts) (layout_of batch) }
    ∷ record { id = template_id layouts (layout_of batch); content = l } ∷ [] in s) e
    ∙ sym (ap (λ (t : Bool). cond t [] (record
    { id = 2; content = template_octets (256 + length layouts) (layout_of batch) } ∷ [])
    ++ record { id = template_id layouts (layout_of batch); content = records_octets batch } ∷ []) new)

pub short : (layouts : List Layout) (batch : List Record) (sets : List Set) → IsBatch batch → map set_parts sets
    ≡ message_sets layouts batch → message_length (map set_parts sets) ≤ 65535
short layouts batch sets b e = subst (λ (ss : List SetParts). message_length ss ≤ 65535) (sym e)
    (sets_few layouts batch b)

-- octets put behind none
pub from_none : (start new all : List ℕ) (lent : Bor (List ℕ)) → start ≡ [] → new ≡ start ++ all → lent.now ≡ new
    → lent.now ≡ all
from_none start new all lent s n l = l ∙ n ∙ ap (λ (x : List ℕ). x ++ all) s

pub put_is : {A E : Type 0} (r : Result A E) (new old : List ℕ) (header : Header) (layouts : List Layout)
    (batch : List Record) (sets : List Set) → map set_parts sets ≡ message_sets layouts batch
    → OnOk r (new ≡ old ++ message_octets header (map set_parts sets))
    → OnOk r (new ≡ old ++ message_octets header (message_sets layouts batch))
put_is (Ok x) new old header layouts batch sets e o = o ∙ ap (λ (ss : List SetParts). old ++ message_octets header ss) e
put_is (Err n) new old header layouts batch sets e o = tt
