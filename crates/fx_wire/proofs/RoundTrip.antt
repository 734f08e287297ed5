-- What is written is read back.
use Rattle.std.proofs.Common.{◌≡◌, ℕ, ◌+◌, ◌-◌, ◌≤◌, Bool, false, cond, ltb, le-ltb, ◌||◌, List, [], ◌∷◌, ◌++◌, length, take, drop, refl, ap, sym, ◌∙◌, arith, Result, Ok, Err, length-append}
use Rattle.std.specs.Int.{w16, w32}
use Rattle.std.proofs.lemmas.Nat.{from_be_bytes-to_be_bytes_2, from_be_bytes-to_be_bytes_4}
use Rattle.std.proofs.lemmas.List.{take_all, drop-drop}
use Rattle.std.proofs.Math.Seq.{take-append_seam, drop-append_seam}
use Rattle.fx_wire.specs.Numbers.{number_at}
use Rattle.fx_wire.specs.Headers.{whole, frame_of, frame_at, header_of}
use Rattle.fx_wire.specs.Sets.{SetParts, set_at, sets_of, before_sets, is_reserved}
use Rattle.fx_wire.specs.Messages.{front, front_by, with_sets, complete}
use Rattle.fx_wire.specs.Writing.{set_length, set_octets, sets_length, sets_octets, message_length, version_octets, origin_octets, message_octets, HasId, HaveIds, IsMessage}
use Rattle.fx_wire.specs.declared.header.Header.{Header}
use Rattle.fx_wire.specs.declared.malformed.Malformed.{Malformed}
use Rattle.fx_wire.specs.declared.malformed.Malformed.TheVariants as malformed
use Rattle.fx_wire.proofs.SetLists.{sets_of-none, sets_of-first}

-- ---- sets

abbrev shape : Bool → Bool → Bool → Bool → SetParts → List ℕ → Result (SetParts × List ℕ) Malformed
shape short low past reserved s rest = cond short (Err malformed.SetLength)
    (cond (low || past) (Err malformed.SetLength) (cond reserved (Err malformed.SetId) (Ok (s, rest))))

set_back_from : (bs content rest : List ℕ) (id len : ℕ) → number_at w16 0 bs ≡ id → number_at w16 2 bs ≡ len → length bs
    ≡ len + length rest → len ≡ 4 + length content
    → drop 4 bs ≡ content ++ rest → is_reserved id ≡ false → set_at bs
    ≡ Ok (record { id = id; content = content }, rest)
set_back_from bs content rest id len i l n k d r =
    let short : ltb (length bs) 4 ≡ false = le-ltb (length bs) 4 (omega arith) in
    let low : ltb (number_at w16 2 bs) 4 ≡ false = le-ltb (number_at w16 2 bs) 4 (omega (arith, l)) in
    let past : ltb (length bs) (number_at w16 2 bs) ≡ false = le-ltb (length bs) (number_at w16 2 bs) (omega (arith, l))
    in
    let reserved : is_reserved (number_at w16 0 bs) ≡ false = ap is_reserved i ∙ r in
    let size : number_at w16 2 bs - 4 ≡ length content = omega (arith, l) in
    let body : take (number_at w16 2 bs - 4) (drop 4 bs) ≡ content = ap (λ (m : ℕ). take m (drop 4 bs)) size
    ∙ ap (take (length content)) d ∙ take-append_seam content rest in
    let all : number_at w16 2 bs ≡ 4 + length content = l ∙ k in
    let behind : drop (number_at w16 2 bs) bs ≡ rest = ap (λ (m : ℕ). drop m bs) all
    ∙ sym (drop-drop (length content) 4 bs) ∙ ap (drop (length content)) d ∙ drop-append_seam content rest in
    let parts : record { id = number_at w16 0 bs; content = take (number_at w16 2 bs - 4) (drop 4 bs) }
    ≡ record { id = id; content = content } = cc in
    ap (λ (t : Bool). shape t (ltb (number_at w16 2 bs) 4) (ltb (length bs) (number_at w16 2 bs))
    (is_reserved (number_at w16 0 bs)) (record
    { id = number_at w16 0 bs; content = take (number_at w16 2 bs - 4) (drop 4 bs) })
    (drop (number_at w16 2 bs) bs)) short
    ∙ ap (λ (t : Bool). shape false t (ltb (length bs) (number_at w16 2 bs)) (is_reserved (number_at w16 0 bs))
    (record { id = number_at w16 0 bs; content = take (number_at w16 2 bs - 4) (drop 4 bs) })
    (drop (number_at w16 2 bs) bs)) low
    ∙ ap (λ (t : Bool). shape false false t (is_reserved (number_at w16 0 bs))
    (record { id = number_at w16 0 bs; content = take (number_at w16 2 bs - 4) (drop 4 bs) })
    (drop (number_at w16 2 bs) bs)) past
    ∙ ap (λ (t : Bool). shape false false false t
    (record { id = number_at w16 0 bs; content = take (number_at w16 2 bs - 4) (drop 4 bs) })
    (drop (number_at w16 2 bs) bs)) reserved
    ∙ ap (λ (s : SetParts). shape false false false false s (drop (number_at w16 2 bs) bs)) parts
    ∙ ap (λ (r : List ℕ). shape false false false false (record { id = id; content = content }) r) behind

set_back : (s : SetParts) (rest : List ℕ) → HasId s → set_length s ≤ 65535 → set_at (set_octets s ++ rest)
    ≡ Ok (s, rest)
unfolding set_octets
set_back s rest h le =
    set_back_from (set_octets s ++ rest) s.content rest s.id (set_length s) (from_be_bytes-to_be_bytes_2 s.id h.0)
    (from_be_bytes-to_be_bytes_2 (set_length s) (omega arith))
    (omega (arith, length-append s.content rest)) refl refl h.1

sets_octets-length : (ss : List SetParts) → length (sets_octets ss) ≡ sets_length ss
unfolding set_octets
sets_octets-length [] = refl
sets_octets-length (s ∷ ss) = omega (
  arith,
  sets_octets-length ss,
  length-append s.content (sets_octets ss),
  length-append (set_octets s) (sets_octets ss),
)

sets_back : (ss : List SetParts) → HaveIds ss → sets_length ss ≤ 65535 → sets_of (sets_octets ss) ≡ Ok ss
sets_back [] h le = sets_of-none
sets_back (s ∷ ss) h le =
    (sets_of-first (set_octets s ++ sets_octets ss) (s, sets_octets ss)
    (set_back s (sets_octets ss) h.0 (omega arith))).0
    ∙ ap (before_sets s) (sets_back ss h.1 (omega arith))

-- ---- messages

abbrev header_shape : ℕ → ℕ → ℕ → Header
header_shape t q d = record { export_time = t; sequence_number = q; observation_domain = d }

header_back : (bs : List ℕ) (h : Header) → number_at w32 4 bs ≡ h.export_time → number_at w32 8 bs ≡ h.sequence_number
    → number_at w32 12 bs ≡ h.observation_domain → header_of bs ≡ h
header_back bs h time sequence domain =
    ap (λ (t : ℕ). header_shape t (number_at w32 8 bs) (number_at w32 12 bs)) time
    ∙ ap (λ (q : ℕ). header_shape h.export_time q (number_at w32 12 bs)) sequence
    ∙ ap (λ (d : ℕ). header_shape h.export_time h.sequence_number d) domain

frame_back : (n : ℕ) → 16 ≤ n → frame_of n 10 n ≡ whole n
frame_back n h = rw (le-ltb n 16 h, le-ltb n n (omega arith)) refl

frame_at-back : (bs : List ℕ) (n : ℕ) → number_at w16 0 bs ≡ 10 → number_at w16 2 bs ≡ n → length bs ≡ n → 16 ≤ n
    → frame_at bs ≡ whole n
frame_at-back bs n version size there h =
    ap (λ (x : ℕ). frame_of x (number_at w16 0 bs) (number_at w16 2 bs)) there
    ∙ ap (λ (x : ℕ). frame_of n x (number_at w16 2 bs)) version ∙ ap (λ (x : ℕ). frame_of n 10 x) size
    ∙ frame_back n h

front_back : (bs body : List ℕ) (h : Header) (n : ℕ) (parts : List SetParts) → frame_at bs ≡ whole n → header_of bs ≡ h
    → length bs ≡ n → drop 16 bs ≡ body → sets_of body ≡ Ok parts
    → front bs ≡ complete (record { octets = n; header = h; sets = parts })
front_back bs body h n parts f g there d e =
    ap (front_by bs) f ∙ ap (λ (x : Header). with_sets n x (sets_of (drop 16 (take n bs)))) g
    ∙ ap (λ (xs : List ℕ). with_sets n h (sets_of (drop 16 xs))) (take_all n bs (omega (arith, there)))
    ∙ ap (λ (xs : List ℕ). with_sets n h (sets_of xs)) d ∙ ap (with_sets n h) e

pub message_octets-length : (h : Header) (ss : List SetParts) → length (message_octets h ss) ≡ message_length ss
unfolding version_octets origin_octets
message_octets-length h ss = omega (arith, sets_octets-length ss)

pub message_back : (h : Header) (ss : List SetParts) → IsMessage h ss → front (message_octets h ss)
    ≡ complete (record { octets = message_length ss; header = h; sets = ss })
unfolding version_octets origin_octets
message_back h ss m =
    let bs : List ℕ = message_octets h ss in
    let there : length bs ≡ message_length ss = message_octets-length h ss in
    front_back bs (sets_octets ss) h (message_length ss) ss
    (frame_at-back bs (message_length ss) refl
    (from_be_bytes-to_be_bytes_2 (message_length ss) (omega (arith, m.length_is))) there (omega arith))
    (header_back bs h (from_be_bytes-to_be_bytes_4 h.export_time m.time)
    (from_be_bytes-to_be_bytes_4 h.sequence_number m.sequence)
    (from_be_bytes-to_be_bytes_4 h.observation_domain m.domain))
    there refl (sets_back ss m.ids (omega (arith, m.length_is)))
