-- What the first octets say doesn't depend on those behind them.
use Rattle.std.proofs.Common.{◌≡◌, ℕ, ◌+◌, ◌≤◌, ◌<◌, Bool, true, false, ◌&&◌, ◌==◌, nat_lt, List, [], ◌++◌, length, take, drop, Option, Some, None, IfSome, Result, Ok, Err, refl, sym, ap, ◌∙◌, subst, arith, inl, inr, ◌⊎◌, if◌then◌else◌}
use Rattle.std.proofs.lemmas.Bool.{cases_lt, lt-ltb, le-ltb}
use Rattle.std.proofs.lemmas.List.{drop-append-le, drop_all, length-append, length-drop, length-take-le, append-nil, take-append-drop}
use Rattle.std.specs.Io.KnownBytes.{prepend_known}
use Rattle.byteorder.specs.Numbers.{big_from-append, little_from-append}
use Rattle.fx_base.specs.declared.fault.Fault.{Fault}
use Rattle.fx_base.specs.declared.fault.Place.TheVariants as places
use Rattle.fx_base.specs.Device.{MayBeLeft, MayHaveLeft}
use Rattle.fx_base.specs.Fault.{fault_at}
use Rattle.fx_pcap.specs.declared.order.Order.{Order}
use Rattle.fx_pcap.specs.declared.order.Order.TheVariants.{Big, Little}
use Rattle.fx_pcap.specs.declared.content.LinkType.{LinkType}
use Rattle.fx_pcap.specs.declared.header.Format.{Format}
use Rattle.fx_pcap.specs.Numbers.{number_in}
use Rattle.fx_pcap.proofs.Left.{first_and_more}
use Rattle.fx_pcap.specs.Records.{is_magic, order_of, link_of, no_capture, of_link, of_order, format_of}

pub number_whole : (order : Order) (n at : ℕ) (held rest : List ℕ) → at + n ≤ length held
    → number_in order n at (held ++ rest) ≡ number_in order n at held
number_whole Big n at held rest h =
    ap (λ (l : List ℕ). number_in Big n 0 l) (drop-append-le at held rest (omega (arith, h)))
    ∙ big_from-append n (drop at held) rest (omega (arith, h, length-drop at held))
number_whole Little n at held rest h =
    ap (λ (l : List ℕ). number_in Little n 0 l) (drop-append-le at held rest (omega (arith, h)))
    ∙ little_from-append n (drop at held) rest (omega (arith, h, length-drop at held))

-- of octets in front of which these stand
pub number_in_front : (order : Order) (n at : ℕ) (held octets : List ℕ) → take (length held) octets ≡ held → at + n
    ≤ length held → number_in order n at octets ≡ number_in order n at held
number_in_front order n at held octets front h =
    let split : held ++ drop (length held) octets ≡ octets =
    ap (λ (l : List ℕ). l ++ drop (length held) octets) (sym front) ∙ take-append-drop (length held) octets in
    ap (number_in order n at) (sym split) ∙ number_whole order n at held (drop (length held) octets) h

-- ---- the file header

order_whole : (held rest : List ℕ) → 24 ≤ length held → order_of (held ++ rest) ≡ order_of held
order_whole held rest h =
    let big = number_whole Big 4 0 held rest (omega (arith, h)) in
    let little = number_whole Little 4 0 held rest (omega (arith, h)) in
    λ i. if is_magic (big i) then Some Big else (if is_magic (little i) then Some Little else None)

of_order_whole : (order : Option Order) (held rest : List ℕ) → 24 ≤ length held → of_order order (held ++ rest)
    ≡ of_order order held
of_order_whole None held rest h = refl
of_order_whole (Some order) held rest h =
    let major = number_whole order 2 4 held rest (omega (arith, h)) in
    let minor = number_whole order 2 6 held rest (omega (arith, h)) in
    let link = number_whole order 4 20 held rest (omega (arith, h)) in
    λ i. if major i == 2 && minor i == 4 then of_link order (link_of (link i)) else no_capture

pub format_whole : (held rest : List ℕ) → 24 ≤ length held → format_of (held ++ rest) ≡ format_of held
format_whole held rest h =
    let long = le-ltb (length (held ++ rest)) 24 (omega (arith, h, length-append held rest)) in
    let enough = le-ltb (length held) 24 h in
    ap (λ (b : Bool). if b then no_capture else of_order (order_of (held ++ rest)) (held ++ rest)) long
    ∙ ap (λ (o : Option Order). of_order o (held ++ rest)) (order_whole held rest h)
    ∙ of_order_whole (order_of held) held rest h
    ∙ sym (ap (λ (b : Bool). if b then no_capture else of_order (order_of held) held) enough)

-- what a format was read from is long enough
pub format_long : (held : List ℕ) (format : Format) → format_of held ≡ Ok format → 24 ≤ length held
format_long held format h =
    elim (cases_lt (length held) 24) [
      | inl short ↦
          let no : no_capture ≡ Ok format = sym (ap
          (λ (b : Bool). if b then no_capture else of_order (order_of held) held) (lt-ltb (length held) 24 short))
          ∙ h in
          absurd (cc)
      | inr long ↦ long
    ]

same_error : {A : Type 0} (e f : Fault) → ◌≡◌ {A = Result A Fault} (Err e) (Err f) → f ≡ e
same_error e f h = cc

link_error : (order : Order) (link : Option LinkType) (e : Fault) → of_link order link ≡ Err e
    → (e ≡ fault_at 701 (places.Octet 0)) ⊎ (e ≡ fault_at 702 places.None)
link_error order None e h = inr (same_error _ e h)
link_error order (Some link) e h = absurd (cc)

order_error : (order : Option Order) (octets : List ℕ) (e : Fault) → of_order order octets ≡ Err e
    → (e ≡ fault_at 701 (places.Octet 0)) ⊎ (e ≡ fault_at 702 places.None)
order_error None octets e h = inl (same_error _ e h)
order_error (Some order) octets e h =
    (elim (number_in order 2 4 octets == 2 && number_in order 2 6 octets == 4)
    as (λ (b : Bool). (if b then of_link order (link_of (number_in order 4 20 octets)) else no_capture) ≡ Err e
    → (e ≡ fault_at 701 (places.Octet 0)) ⊎ (e ≡ fault_at 702 places.None)) [
      | true ↦ λ g. link_error order _ e g
      | false ↦ λ g. inl (same_error _ e g)
    ]) h

format_error : (octets : List ℕ) (e : Fault) → format_of octets ≡ Err e → (e ≡ fault_at 701 (places.Octet 0))
    ⊎ (e ≡ fault_at 702 places.None)
format_error octets e h =
    (elim (nat_lt (length octets) 24) as (λ (b : Bool). (if b then no_capture else of_order (order_of octets) octets)
    ≡ Err e → (e ≡ fault_at 701 (places.Octet 0)) ⊎ (e ≡ fault_at 702 places.None)) [
      | true ↦ λ g. inl (same_error _ e g)
      | false ↦ λ g. order_error (order_of octets) octets e g
    ]) h

-- of all octets, where the first were read and all are held if they are fewer than a header's
all_octets : (held rest : List ℕ) → (length held < 24 → rest ≡ []) → format_of (held ++ rest) ≡ format_of held
all_octets held rest h =
    elim (cases_lt (length held) 24) [
      | inl short ↦ ap format_of (ap (λ (l : List ℕ). held ++ l) (h short) ∙ append-nil held)
      | inr long ↦ format_whole held rest long
    ]

pub refused : (held : List ℕ) (left source : Option (List ℕ)) (e : Fault) → prepend_known held left ≡ source
    → (length held < 24 → IfSome left (λ l. l ≡ [])) → format_of held ≡ Err e
    → ((e ≡ fault_at 701 (places.Octet 0)) ⊎ (e ≡ fault_at 702 places.None))
    × MayHaveLeft source (λ octets. format_of octets ≡ Err e)
refused held None source e is enough h = (
  format_error held e h,
  subst (λ (o : Option (List ℕ)). MayHaveLeft o (λ octets. format_of octets ≡ Err e)) is
      (held, tt, h),
)
refused held (Some rest) source e is enough h = (
  format_error held e h,
  subst (λ (o : Option (List ℕ)). MayHaveLeft o (λ octets. format_of octets ≡ Err e)) is
      (held ++ rest, refl, all_octets held rest enough ∙ h),
)

-- the header of what is held, and what is behind it
pub headed : (held rest : List ℕ) (left source : Option (List ℕ)) (format : Format) → prepend_known held left ≡ source
    → format_of held ≡ Ok format → MayBeLeft (prepend_known (drop 24 held) left) rest
    → MayHaveLeft source (λ octets. (format_of octets ≡ Ok format) × (drop 24 octets ≡ rest))
headed held rest left source format is h behind =
    let long : length (take 24 held) ≡ 24 = length-take-le 24 held (format_long held format h) in
    let first : format_of held ≡ format_of (take 24 held) = ap format_of (sym (take-append-drop 24 held))
    ∙ format_whole (take 24 held) (drop 24 held) (omega (arith, long)) in
    let read : format_of (take 24 held ++ rest) ≡ Ok format = format_whole (take 24 held) rest (omega (arith, long))
    ∙ sym first ∙ h in
    let none : drop 24 (take 24 held) ≡ [] = drop_all 24 (take 24 held) (omega (arith, long)) in
    let after : drop 24 (take 24 held ++ rest) ≡ rest = drop-append-le 24 (take 24 held) rest (omega (arith, long))
    ∙ ap (λ (l : List ℕ). l ++ rest) none in (
      take 24 held ++ rest,
      subst (λ (o : Option (List ℕ)). MayBeLeft o (take 24 held ++ rest)) is
          (first_and_more 24 held rest left behind),
      (read, after),
    )

pub reported_behind : (held : List ℕ) (left source : Option (List ℕ)) → prepend_known held left ≡ source → 24
    ≤ length held → IfSome source (λ octets. prepend_known (drop 24 held) left ≡ Some (drop 24 octets))
reported_behind held None source is long = rw (← is) tt
reported_behind held (Some rest) source is long =
    rw (← is) (sym (ap (λ (l : List ℕ). Some l) (drop-append-le 24 held rest long)))
