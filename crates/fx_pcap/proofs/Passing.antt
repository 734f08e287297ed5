-- Octets of a record that was read are passed over, and records are reported one by one.
use Rattle.std.proofs.Common.{◌≡◌, ℕ, zero, suc, ◌+◌, ◌-◌, ◌^◌, ◌≤◌, ◌<◌, List, [], ◌∷◌, length, drop, Option, None, refl, sym, ap, ◌∙◌, arith}
use Rattle.fx_pcap.specs.declared.header.Format.{Format}
use Rattle.fx_pcap.specs.Records.{captured_length, record_fault, item_of, place_after, with_item, records_behind, records_of}

place_again : (place n : ℕ) → place_after (place_after place 1) n ≡ place_after place (suc n)
place_again place n = omega arith

pub passed : (format : Format) (place n : ℕ) (octets : List ℕ) → place ≤ 2 ^ 64 - 1
    → records_behind format place n octets ≡ records_of format (place_after place n) (drop n octets)
passed format place zero [] fits = refl
passed format place (suc n) [] fits = refl
passed format place zero (o ∷ octets) fits = ap (λ (p : ℕ). records_of format p (o ∷ octets)) (same place fits)
  where
    same : (p : ℕ) → p ≤ 2 ^ 64 - 1 → p ≡ place_after p 0
    same p h = omega arith
passed format place (suc n) (o ∷ octets) fits =
    passed format (place_after place 1) n octets (omega arith)
    ∙ ap (λ (p : ℕ). records_of format p (drop n octets)) (place_again place n)

-- the first record, and those behind it
pub first_record : (format : Format) (place size : ℕ) (octets : List ℕ) → place ≤ 2 ^ 64 - 1 → 0 < length octets
    → record_fault format.order octets ≡ None → size ≡ 16 + captured_length format.order octets
    → records_of format place octets ≡ with_item None place (item_of format octets)
    (records_of format (place_after place size) (drop size octets))
first_record format place size [] fits some none is = absurd (omega arith)
first_record format place size (o ∷ octets) fits some none is =
    let behind : ℕ = 15 + captured_length format.order (o ∷ octets) in
    let count : size ≡ suc behind = omega (arith, is) in
    let rest : records_behind format (place_after place 1) behind octets
    ≡ records_of format (place_after place size) (drop size (o ∷ octets)) =
    passed format (place_after place 1) behind octets (omega arith)
    ∙ ap (λ (p : ℕ). records_of format p (drop behind octets)) (place_again place behind)
    ∙ ap (λ (n : ℕ). records_of format (place_after place n) (drop n (o ∷ octets))) (sym count) in
    ap (λ (f : Option ℕ). with_item f place (item_of format (o ∷ octets))
    (records_behind format (place_after place 1) behind octets)) none
    ∙ ap (with_item None place (item_of format (o ∷ octets))) rest
