-- What is wrong with a record of which some octets are held.
use Rattle.std.proofs.Common.{◌≡◌, ℕ, ◌+◌, ◌≤◌, ◌<◌, true, false, nat_lt, List, [], ◌++◌, length, Option, Some, None, IfSome, arith, if◌then◌else◌}
use Rattle.std.proofs.lemmas.Bool.{lt-ltb, le-ltb}
use Rattle.std.proofs.lemmas.List.{length-append}
use Rattle.std.specs.Io.KnownBytes.{prepend_known}
use Rattle.fx_base.specs.Device.{MayHaveLeft}
use Rattle.fx_pcap.specs.declared.order.Order.{Order}
use Rattle.fx_pcap.specs.Records.{captured_length, record_fault}
use Rattle.fx_pcap.proofs.Left.{held_and_more, held_alone}
use Rattle.fx_pcap.proofs.Whole.{number_whole}

-- more octets behind a header don't make a record that is too long any shorter
pub too_long : (order : Order) (held : List ℕ) (left all : Option (List ℕ)) → prepend_known held left ≡ all → 16
    ≤ length held → 262144 < captured_length order held
    → MayHaveLeft all (λ os. (0 < length os) × (record_fault order os ≡ Some 704))
too_long order held left all is header long =
    held_and_more (λ os. (0 < length os) × (record_fault order os ≡ Some 704)) held left all is
    (λ rest. (omega (arith, length-append held rest, header), fault rest)) where
      fault : (rest : List ℕ) → record_fault order (held ++ rest) ≡ Some 704
      fault rest =
          let enough : nat_lt (length (held ++ rest)) 16 ≡ false =
          le-ltb _ _ (omega (arith, length-append held rest, header)) in
          let same : captured_length order (held ++ rest) ≡ captured_length order held =
          number_whole order 4 8 held rest (omega (arith, header)) in
          let above : nat_lt 262144 (captured_length order (held ++ rest)) ≡ true =
          lt-ltb _ _ (omega (arith, same, long))
          in
          λ i. if enough i then Some 703 else (if above i then Some 704
          else (if nat_lt (length (held ++ rest)) (16 + captured_length order (held ++ rest)) then Some 703 else None))

-- behind the octets that are held of it the capture ends
pub cut : (order : Order) (held : List ℕ) (left all : Option (List ℕ)) → prepend_known held left ≡ all
    → IfSome left (λ l. l ≡ []) → 16 ≤ length held → captured_length order held ≤ 262144 → length held < 16
    + captured_length order held → MayHaveLeft all (λ os. (0 < length os) × (record_fault order os ≡ Some 703))
cut order held left all is ended header short some =
    held_alone (λ os. (0 < length os) × (record_fault order os ≡ Some 703)) held left all is ended
    (omega (arith, header), fault) where
      fault : record_fault order held ≡ Some 703
      fault =
          let enough : nat_lt (length held) 16 ≡ false = le-ltb _ _ header in
          let below : nat_lt 262144 (captured_length order held) ≡ false = le-ltb _ _ short in
          let few : nat_lt (length held) (16 + captured_length order held) ≡ true = lt-ltb _ _ some in
          λ i. if enough i then Some 703 else (if below i then Some 704 else (if few i then Some 703 else None))
