-- Extension headers are passed over one after another.
use Rattle.std.proofs.Common.{◌≡◌, ℕ, zero, suc, ◌+◌, ◌-◌, ◌*◌, ◌<◌, ◌≤◌, lt-ltb, Bool, true, false, nat_lt, List, [], ◌∷◌, length, drop, Option, Some, None, refl, sym, ap, ◌∙◌, arith, slice_index, if◌then◌else◌}
use Rattle.std.proofs.lemmas.Bool.{le-ltb}
use Rattle.fx_pcap.specs.declared.transport.TransportHeader.{TransportHeader}
use Rattle.fx_pcap.specs.Headers.{is_fragment, is_extension, next_header, header_length, octets_read, is_later_fragment, without_ports, transport_in, with_header, transport_behind, transport_of, IsHeaderByHeader}

passed : (n type : ℕ) (octets : List ℕ) → transport_behind n type octets ≡ transport_of type (drop n octets)
passed zero type [] = refl
passed (suc n) type [] = refl
passed zero type (o ∷ octets) = refl
passed (suc n) type (o ∷ octets) = passed n type octets

header_there : (type : ℕ) (octets : List ℕ) → header_length type octets ≡ suc (header_length type octets - 1)
header_there type octets =
    elim (is_fragment type) as (λ b. let size : ℕ = if b then 8 else 8 * (slice_index octets 1 + 1) in
    size ≡ suc (size - 1)) [
      | true ↦ refl
      | false ↦ omega arith
    ]

some_read : (type : ℕ) → nat_lt 0 (octets_read type) ≡ true
some_read type = elim (is_fragment type) as (λ b. nat_lt 0 (if b then 4 else 2) ≡ true) [ true ↦ refl | false ↦ refl ]

-- where nothing is left, no next header is
nothing_next : (type : ℕ) (next : Option TransportHeader) → with_header type [] None ≡ with_header type [] next
nothing_next type next =
    let none : (o : Option TransportHeader) → with_header type [] o
    ≡ (if is_extension type then None else transport_in type []) =
    λ o. ap (λ (b : Bool). if is_extension type
    then (if b then None else (if is_later_fragment type [] then Some (without_ports (next_header [])) else o))
    else transport_in type []) (some_read type) in
    none None ∙ sym (none next)

pub one_by_one : (type : ℕ) (octets : List ℕ) → IsHeaderByHeader type octets
one_by_one type [] = nothing_next type (transport_of 0 (drop (header_length type []) []))
one_by_one type (o ∷ octets) =
    let size : ℕ = header_length type (o ∷ octets) in
    let rest : drop (size - 1) octets ≡ drop size (o ∷ octets) =
    sym (ap (λ (n : ℕ). drop n (o ∷ octets)) (header_there type (o ∷ octets))) in
    ap (with_header type (o ∷ octets)) (passed (size - 1) o octets ∙ ap (transport_of o) rest)

-- an extension header whose octets are there, of no later fragment
pub goes_on : (type : ℕ) (octets : List ℕ) (next : Option TransportHeader) → is_extension type ≡ true → octets_read type
    ≤ length octets → is_later_fragment type octets ≡ false → with_header type octets next ≡ next
goes_on type octets next here long first =
    let enough : nat_lt (length octets) (octets_read type) ≡ false = le-ltb _ _ long in
    λ i. if here i then (if enough i then None
    else (if first i then Some (without_ports (next_header octets)) else next)) else transport_in type octets

-- one whose octets aren't there
pub cut_short : (type : ℕ) (octets : List ℕ) (next : Option TransportHeader) → is_extension type ≡ true → length octets
    < octets_read type → with_header type octets next ≡ None
cut_short type octets next here short =
    let few : nat_lt (length octets) (octets_read type) ≡ true = lt-ltb _ _ short in
    λ i. if here i then (if few i then None
    else (if is_later_fragment type octets then Some (without_ports (next_header octets)) else next))
    else transport_in type octets

-- one of a later fragment
pub in_fragment : (type : ℕ) (octets : List ℕ) (next : Option TransportHeader) → is_extension type ≡ true
    → octets_read type ≤ length octets → is_later_fragment type octets ≡ true
    → with_header type octets next ≡ Some (without_ports (next_header octets))
in_fragment type octets next here long later =
    let enough : nat_lt (length octets) (octets_read type) ≡ false = le-ltb _ _ long in
    λ i. if here i then (if enough i then None
    else (if later i then Some (without_ports (next_header octets)) else next)) else transport_in type octets
