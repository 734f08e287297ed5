use Rattle.std.proofs.Common.{◌≡◌, ℕ, ◌+◌, ◌-◌, ◌<◌, ◌≤◌, true, false, Some, length, take, drop, min, sym, ap, ◌∙◌, arith, slice_index_or}
use Rattle.std.proofs.lemmas.List.{drop-drop, drop_min, take_rest}
use Rattle.fx_pcap.specs.Headers.{is_extension, octets_read, is_later_fragment, header_length, transport_of, without_ports}
use Rattle.fx_pcap.proofs.HeaderByHeader.{cut_short, goes_on, in_fragment, one_by_one}
use Rattle.fx_pcap.proofs.extension.read_payload.Goals as goal

pub headers-preserved : goal.headers-preserved
headers-preserved c =
    let octets = c.args.octets.now in
    let at = c.headers.at in
    let type = c.headers.header in
    let size = header_length type (drop at octets) in
    let rest : take (length octets - at) (drop at octets) ≡ drop at octets = take_rest octets at in
    let here : is_extension type ≡ true = sym c.is_extension.ensures ∙ c.headers-test.true in
    let long : octets_read type ≤ length (drop at octets) =
    omega (arith, c.if-rest-octets_read.false, c.octets_read.ensures, ap length rest) in
    let first : is_later_fragment type (drop at octets) ≡ false = sym (ap (is_later_fragment type) rest)
    ∙ sym c.is_later_fragment.ensures ∙ c.if-is_later_fragment.false in
    let place : c.min-at.result ≡ min (at + size) (length octets) = c.min-at.ensures
    ∙ ap (λ (n : ℕ). min (at + n) (length octets)) (c.header_length.ensures ∙ ap (header_length type) rest) in
    let behind : drop c.min-at.result octets ≡ drop size (drop at octets) = ap (λ (n : ℕ). drop n octets) place
    ∙ drop_min (at + size) octets ∙ sym (drop-drop size at octets) in
    record {
      within = omega (arith, c.min-at.ensures);
      same = (λ i. transport_of (slice_index_or (rest i) 0 0) (behind i))
          ∙ sym (one_by_one type (drop at octets) ∙ goes_on type (drop at octets) _ here long first)
          ∙ c.headers.invariant.same;
    }

pub returns-then-rest-octets_read : goal.returns-then-rest-octets_read
returns-then-rest-octets_read c =
    let behind = drop c.headers.at c.args.octets.now in
    let type = c.headers.header in
    let rest : take (length c.args.octets.now - c.headers.at) behind ≡ behind = take_rest c.args.octets.now c.headers.at
    in
    let here : is_extension type ≡ true = sym c.is_extension.ensures ∙ c.headers-test.true in
    let short : length behind < octets_read type =
    omega (arith, c.if-rest-octets_read.true, c.octets_read.ensures, ap length rest) in
    sym (one_by_one type behind ∙ cut_short type behind _ here short) ∙ c.headers.invariant.same

pub returns-then-is_later_fragment : goal.returns-then-is_later_fragment
returns-then-is_later_fragment c =
    let behind = drop c.headers.at c.args.octets.now in
    let type = c.headers.header in
    let rest : take (length c.args.octets.now - c.headers.at) behind ≡ behind = take_rest c.args.octets.now c.headers.at
    in
    let here : is_extension type ≡ true = sym c.is_extension.ensures ∙ c.headers-test.true in
    let long : octets_read type ≤ length behind =
    omega (arith, c.if-rest-octets_read.false, c.octets_read.ensures, ap length rest) in
    let later : is_later_fragment type behind ≡ true = sym (ap (is_later_fragment type) rest)
    ∙ sym c.is_later_fragment.ensures ∙ c.if-is_later_fragment.true in
    (λ i. Some ((c.without_ports.ensures ∙ (λ j. without_ports (slice_index_or (rest j) 0 0))) i))
    ∙ sym (one_by_one type behind ∙ in_fragment type behind _ here long later) ∙ c.headers.invariant.same
