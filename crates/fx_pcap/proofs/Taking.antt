-- A record that is held is the first ahead.
use Rattle.std.proofs.Common.{◌≡◌, ℕ, ◌+◌, ◌-◌, ◌*◌, ◌^◌, ◌≤◌, ◌<◌, false, nat_lt, List, [], ◌++◌, length, take, drop, Option, Some, None, IfSome, MatchOption, min, refl, sym, ap, ◌∙◌, subst, arith, slice_range, if◌then◌else◌}
use Rattle.std.specs.Option.{option_map}
use Rattle.std.specs.Io.KnownBytes.{prepend_known}
use Rattle.std.proofs.Math.Nat.{min-eq_left}
use Rattle.std.proofs.lemmas.Bool.{le-ltb}
use Rattle.std.proofs.lemmas.List.{drop-append-le, take-append-le, take-append-drop, take-take, drop-take, drop_all, length-append, length-drop, length-take-le}
use Rattle.fx_pcap.specs.declared.order.Order.{Order}
use Rattle.fx_pcap.specs.declared.content.Content.{Content}
use Rattle.fx_pcap.specs.declared.header.Format.{Format}
use Rattle.fx_pcap.specs.declared.skipped.Skipped.{Skipped}
use Rattle.fx_pcap.specs.Numbers.{number_in}
use Rattle.fx_pcap.specs.Frames.{content_of}
use Rattle.fx_pcap.specs.Records.{captured_length, second_of, record_fault, item_of, Records, place_after, with_item, records_of}
use Rattle.fx_pcap.specs.Captures.{Seen, skips_with, with_frame, frames_in, skipped_in, FramesAhead, ahead_in, CaptureState, ahead_of, with_first, CallsForFrames, GainsFrames, AtFrame, frame_budget}
use Rattle.fx_base.specs.Window.{Held, octets_of}
use Rattle.fx_base.specs.Limits.{call_limit}
use Rattle.fx_pcap.specs.FirstRecord.{HasRecord}
use Rattle.fx_pcap.specs.declared.record.TheConstants.{ROOM}
use Rattle.fx_pcap.specs.Kept.{KeptRecord, fault_of, reading_of, Passes}
use Rattle.fx_pcap.specs.declared.content.Content.TheVariants.{Packet, Other, Malformed}
use Rattle.fx_pcap.specs.declared.stop.CaptureStop.{CaptureStop}
use Rattle.fx_base.specs.Device.{MayBeLeft, MayHaveLeft, IsAsked}
use Rattle.fx_pcap.proofs.Asking.{asks_of, gains_of}
use Rattle.fx_base.proofs.Reading.{opaque_after}
use Rattle.fx_pcap.proofs.Left.{first_and_more}
use Rattle.fx_pcap.proofs.Whole.{number_whole}
use Rattle.fx_pcap.proofs.Passing.{first_record}

-- what is ahead where this comes before the rest
abbrev pub ahead_with : Content → List ℕ → ℕ → Skipped → Records → FramesAhead
ahead_with content captured second s r = record {
  frames = with_frame content captured second s (frames_in (skips_with s content) r.items);
  skipped = skipped_in (skips_with s content) r.items;
  fault = r.fault;
}

-- a whole record has no fault
no_fault : (order : Order) (n : ℕ) (held rest : List ℕ) → HasRecord order n held → record_fault order (held ++ rest)
    ≡ None
no_fault order n held rest h =
    let size : n ≡ 16 + captured_length order held = h.size in
    let whole : n ≤ length held = h.whole in
    let same : captured_length order (held ++ rest) ≡ captured_length order held =
    number_whole order 4 8 held rest (omega (arith, size, whole)) in
    let all = length-append held rest in
    let long : nat_lt (length (held ++ rest)) 16 ≡ false = le-ltb _ _ (omega (arith, all, size, whole)) in
    let short : nat_lt 262144 (captured_length order (held ++ rest)) ≡ false = le-ltb _ _ (omega (arith, same, h.short))
    in
    let fits : nat_lt (length (held ++ rest)) (16 + captured_length order (held ++ rest)) ≡ false =
    le-ltb _ _ (omega (arith, all, same, size, whole)) in
    λ i. if long i then Some 703 else (if short i then Some 704 else (if fits i then Some 703 else None))

-- what is held of a record is what it is
item_whole : (format : Format) (n : ℕ) (held rest : List ℕ) → HasRecord format.order n held
    → item_of format (held ++ rest) ≡ record {
      captured = slice_range held 16 n;
      content =
          content_of format.link (slice_range held 16 n);
      second = second_of format.order held;
    }
item_whole format n held rest h =
    let size : n ≡ 16 + captured_length format.order held = h.size in
    let whole : n ≤ length held = h.whole in
    let same : captured_length format.order (held ++ rest) ≡ n - 16 =
    number_whole format.order 4 8 held rest (omega (arith, size, whole)) ∙ omega (arith, size) in
    let second = number_whole format.order 4 0 held rest (omega (arith, size, whole)) in
    let octets : take (captured_length format.order (held ++ rest)) (drop 16 (held ++ rest))
    ≡ take (n - 16) (drop 16 held) = ap (λ (k : ℕ). take k (drop 16 (held ++ rest))) same
    ∙ ap (take (n - 16)) (drop-append-le 16 held rest (omega (arith, size, whole)))
    ∙ take-append-le (n - 16) (drop 16 held) rest (omega (arith, size, whole, length-drop 16 held)) in
    λ i. record { captured = octets i; content = content_of format.link (octets i); second = second i }

-- the record that is held, and what is ahead behind it
taken : (held rest : List ℕ) (format : Format) (n place place' second : ℕ) (content : Content) (captured : List ℕ)
    (s : Skipped) → HasRecord format.order n held → place ≤ 2 ^ 64 - 1 → place' ≡ place_after place n → content
    ≡ content_of format.link (slice_range held 16 n) → captured ≡ slice_range held 16 n → second
    ≡ second_of format.order held → ahead_in s (records_of format place (held ++ rest))
    ≡ ahead_with content captured second s (records_of format place' (drop n held ++ rest))
taken held rest format n place place' second content captured s h fits at is lent when =
    let size : n ≡ 16 + captured_length format.order held = h.size in
    let whole : n ≤ length held = h.whole in
    let count : n ≡ 16 + captured_length format.order (held ++ rest) = size
    ∙ ap (λ (k : ℕ). 16 + k) (sym (number_whole format.order 4 8 held rest (omega (arith, size, whole)))) in
    let first = first_record format place n (held ++ rest) fits (omega (arith, length-append held rest, size, whole))
    (no_fault format.order n held rest h) count in
    let item : item_of format (held ++ rest) ≡ record { captured = captured; content = content; second = second } =
    item_whole format n held rest h ∙ (λ i.
    record { captured = sym lent i; content = sym is i; second = sym when i }) in
    let behind : records_of format (place_after place n) (drop n (held ++ rest))
    ≡ records_of format place' (drop n held ++ rest) =
    λ i. records_of format (sym at i) (drop-append-le n held rest whole i) in
    ap (λ (r : Records). ahead_in s r) (first ∙ (λ i. with_item None place (item i) (behind i)))

-- the same whatever is behind the record
pub taken_alone : (held rest : List ℕ) (format : Format) (n place place' second : ℕ) (content : Content)
    (captured : List ℕ) (s : Skipped) → HasRecord format.order n held → place ≤ 2 ^ 64 - 1 → place'
    ≡ place_after place n → content ≡ content_of format.link (slice_range held 16 n) → captured ≡ slice_range held 16 n
    → second ≡ second_of format.order held → ahead_in s (records_of format place (take n held ++ rest))
    ≡ ahead_with content captured second s (records_of format place' rest)
taken_alone held rest format n place place' second content captured s h fits at is lent when =
    let size : n ≡ 16 + captured_length format.order held = h.size in
    let long : length (take n held) ≡ n = length-take-le n held h.whole in
    let whole : take n held ++ drop n held ≡ held = take-append-drop n held in
    let count : captured_length format.order held ≡ captured_length format.order (take n held) =
    ap (captured_length format.order) (sym whole)
    ∙ number_whole format.order 4 8 (take n held) (drop n held) (omega (arith, long, size)) in
    let stamp : second_of format.order held ≡ second_of format.order (take n held) =
    ap (second_of format.order) (sym whole)
    ∙ number_whole format.order 4 0 (take n held) (drop n held) (omega (arith, long, size)) in
    let split : n ≡ 16 + (n - 16) = omega (arith, size) in
    let inner : drop 16 (take n held) ≡ take (n - 16) (drop 16 held) = ap (λ (m : ℕ). drop 16 (take m held)) split
    ∙ drop-take 16 (n - 16) held in
    let same : slice_range held 16 n ≡ slice_range (take n held) 16 n =
    sym (ap (take (n - 16)) inner ∙ take-take (n - 16) (n - 16) (drop 16 held) (omega arith)) in
    let alone : HasRecord format.order n (take n held) =
    record {
      size = size ∙ ap (λ (k : ℕ). 16 + k) count;
      short = omega (arith, count, h.short);
      whole =
          omega (arith, long);
    } in
    let none : drop n (take n held) ≡ [] = drop_all n (take n held) (omega (arith, long)) in
    taken (take n held) rest format n place place' second content captured s alone fits at
    (is ∙ ap (content_of format.link) same) (lent ∙ same) (when ∙ stamp)
    ∙ ap (λ (l : List ℕ). ahead_with content captured second s (records_of format place' (l ++ rest))) none

-- ---- readers

pub found_is : (o : Option ℕ) (n : ℕ) (P : Type 0) (Q : ℕ → Type 0) → o ≡ Some n → MatchOption o P Q → Q n
found_is o n P Q e h = subst (λ (x : Option ℕ). MatchOption x P Q) e h

pub so_small : (o : Option ℕ) (n : ℕ) (Q : ℕ → Type 0) → o ≡ Some n → IfSome o Q → Q n
so_small o n Q e h = subst (λ (x : Option ℕ). IfSome x Q) e h

-- the reader behind a record
abbrev pub behind : KeptRecord → ℕ → ℕ → Skipped → List ℕ → ℕ → ℕ → KeptRecord
behind k n place s fields octets second =
    record k { place = place; taken = n; skipped = s; fields = fields; octets = octets; second = second }

-- a record was taken: this came before what is ahead now
pub record After (old new : CaptureState) (content : Content) (s : Skipped) : Type 0 where
  pub going : (old.stopped ≡ None) × (new.stopped ≡ None)
  pub frames : (rest : List ℕ) → MayBeLeft new.left rest
      → MayHaveLeft old.left (λ octets. ahead_of old octets
      ≡ ahead_with content new.seen.captured new.seen.second s (records_of new.format new.place rest))
  pub opaque : old.left ≡ None → new.left ≡ None
  pub format : new.format ≡ old.format
  pub asks : CallsForFrames old new
  pub gains : GainsFrames 0 old new
  pub smaller : frame_budget new < frame_budget old

no_stop : (place place' : ℕ) (o : Option CaptureStop) → option_map (fault_of place) o ≡ None
    → option_map (fault_of place') o ≡ None
no_stop place place' None h = refl
no_stop place place' (Some stop) h = absurd (cc)

pub after_record : (w w1 w2 : Held) (k : KeptRecord) (n place : ℕ) (s : Skipped) (fields : List ℕ) (size second : ℕ)
    (content : Content) (octets : List ℕ) → w1 ≡ record w { held = drop k.taken w.held } → octets_of w2 ≡ octets_of w1
    → w2.calls + length w1.held ≤ w1.calls + length w2.held → w1.calls ≤ w2.calls
    → IsAsked w1.asked (w2.calls - w1.calls) w2.asked → HasRecord k.format.order n w2.held
    → (call_limit - w2.calls) * (ROOM + 1) + (length w2.held - n) < (call_limit - w1.calls) * (ROOM + 1)
    + length w1.held → octets ≡ w2.held → content ≡ content_of k.format.link (slice_range octets 16 n) → second
    ≡ number_in k.format.order 4 0 octets → k.place ≤ 2 ^ 64 - 1 → place ≡ place_after k.place n
    → (reading_of w k).stopped ≡ None → After (reading_of w k) (reading_of w2 (behind k n place s fields size second))
    content k.skipped
after_record w w1 w2 k n place s fields size second content octets passed same spent more asked has smaller held is when
    fits at going =
    let all : octets_of w2 ≡ prepend_known (drop k.taken w.held) w.left = same ∙ ap octets_of passed in
    let here : content ≡ content_of k.format.link (slice_range w2.held 16 n) = is
    ∙ ap (λ (l : List ℕ). content_of k.format.link (slice_range l 16 n)) held in
    let from : min 16 n ≡ 16 = min-eq_left (omega (arith, has.size)) in
    let lent : slice_range w2.held (min 16 n) n ≡ slice_range w2.held 16 n =
    ap (λ (m : ℕ). slice_range w2.held m n) from in
    let stamp : second ≡ second_of k.format.order w2.held = when ∙ ap (λ (l : List ℕ). second_of k.format.order l) held
    in
    let calls : w1.calls ≡ w.calls = ap (λ (x : Held). x.calls) passed in
    let long : length w1.held ≡ length w.held - k.taken = ap (λ (x : Held). length x.held) passed
    ∙ length-drop k.taken w.held in
    record {
      going = (going, no_stop k.place place k.stopped going);
      frames = λ rest left. (
        take n w2.held ++ rest,
        subst (λ (o : Option (List ℕ)). MayBeLeft o (take n w2.held ++ rest)) all
            (first_and_more n w2.held rest w2.left left),
        taken_alone w2.held rest k.format n k.place place second content
            (slice_range w2.held (min 16 n) n) k.skipped has fits at here lent stamp,
      );
      opaque = opaque_after (drop k.taken w.held) w2.held (drop n w2.held) w.left w2.left all;
      format = refl;
      asks = asks_of w w1 w2 k (behind k n place s fields size second) passed more asked;
      gains = gains_of 0 w w1 w2 k (behind k n place s fields size second) passed same (omega (arith, spent));
      smaller = subst (λ (m : ℕ). (call_limit - w2.calls) * (ROOM + 1) + (length w2.held - n) < m)
          ((λ i. (call_limit - calls i) * (ROOM + 1) + long i)) smaller;
    }

frame_first : (content : Content) (fields : List ℕ) (octets : ℕ) (seen : Seen) (s : Skipped) (r : Records) → content
    ≡ Packet fields octets → seen.fields ≡ fields → seen.octets ≡ octets
    → ahead_with content seen.captured seen.second s r ≡ with_first seen s (ahead_in s r)
frame_first content fields octets seen s r is f o =
    (λ i. ahead_with (is i) seen.captured seen.second s r)
    ∙ (λ i. with_first (record {
      captured = seen.captured;
      fields = sym f i;
      octets = sym o i;
      second =
          seen.second;
    }) s (ahead_in s r))

pub at_frame : (old new : CaptureState) (content : Content) (fields : List ℕ) (octets : ℕ)
    → After old new content new.skipped → content ≡ Packet fields octets → new.seen.fields ≡ fields → new.seen.octets
    ≡ octets → AtFrame old new
at_frame old new content fields octets a is f o = record {
  going = a.going;
  frames = λ rest left. (let x = a.frames rest left in (
    x.0,
    x.1,
    x.2 ∙ frame_first content fields octets new.seen new.skipped (records_of new.format new.place rest) is
        f o,
  ));
  opaque = a.opaque;
  format = a.format;
  asks = a.asks;
  gains = a.gains;
  smaller = a.smaller;
}

passes : (old new : CaptureState) (content : Content) (s : Skipped) → After old new content s
    → ((captured : List ℕ) (second : ℕ) (r : Records) → ahead_with content captured second s r ≡ ahead_in new.skipped r)
    → Passes old new
passes old new content s a same = record {
  going = a.going.1;
  frames = λ rest left. (let x = a.frames rest left in
      (x.0, x.1, x.2 ∙ same new.seen.captured new.seen.second (records_of new.format new.place rest)));
  opaque = a.opaque;
  format = a.format;
  asks = a.asks;
  gains = a.gains;
  smaller = a.smaller;
}

pub passes_other : (old new : CaptureState) (content : Content) (s : Skipped) → After old new content s → content
    ≡ Other → new.skipped ≡ skips_with s Other → Passes old new
passes_other old new content s a is count =
    passes old new content s a (λ captured second r. (λ i. ahead_with (is i) captured second s r)
    ∙ (λ i. ahead_in (sym count i) r))

pub passes_malformed : (old new : CaptureState) (content : Content) (s : Skipped) → After old new content s → content
    ≡ Malformed → new.skipped ≡ skips_with s Malformed → Passes old new
passes_malformed old new content s a is count =
    passes old new content s a (λ captured second r. (λ i. ahead_with (is i) captured second s r)
    ∙ (λ i. ahead_in (sym count i) r))
