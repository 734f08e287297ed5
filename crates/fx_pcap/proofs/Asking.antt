-- What a reader has asked of its source.
use Rattle.std.proofs.Common.{◌≡◌, ℕ, ◌+◌, ◌-◌, ◌≤◌, List, ◌++◌, length, drop, Option, Some, None, IfSome, subst, arith}
use Rattle.std.proofs.lemmas.List.{length-append, length-drop}
use Rattle.std.specs.Io.KnownBytes.{prepend_known}
use Rattle.fx_base.proofs.Spending.{asked_since, gained_since}
use Rattle.fx_base.specs.Device.{IsAsked}
use Rattle.fx_pcap.specs.Captures.{CallsForFrames, GainsFrames}
use Rattle.fx_pcap.specs.Kept.{KeptRecord, reading_of}
use Rattle.fx_base.specs.Window.{Held, octets_of}

-- ---- of a window that passed some octets and was filled then

pub asks_of : (w w1 w2 : Held) (k l : KeptRecord) → w1 ≡ record w { held = drop k.taken w.held } → w1.calls ≤ w2.calls
    → IsAsked w1.asked (w2.calls - w1.calls) w2.asked → CallsForFrames (reading_of w k) (reading_of w2 l)
asks_of w w1 w2 k l passed more asked =
    let since = asked_since w w1 w2 k.taken passed more asked in
    record {
      calls = since.0;
      asked = since.1;
    }

pub gains_of : (n : ℕ) (w w1 w2 : Held) (k l : KeptRecord) → w1 ≡ record w { held = drop k.taken w.held } → octets_of w2
    ≡ octets_of w1 → w2.calls + length w1.held ≤ w1.calls + length w2.held + n
    → GainsFrames n (reading_of w k) (reading_of w2 l)
gains_of n w w1 w2 k l passed same spent = gained_since w w1 w2 k.taken l.taken n passed same spent

-- ---- of a reader that has read the file header

pub asks_opened : (w0 w : Held) (asked : ℕ) → w0.calls ≡ 0 → w0.asked ≡ asked
    → IsAsked w0.asked (w.calls - w0.calls) w.asked → IsAsked asked w.calls w.asked
asks_opened w0 w asked none at asks =
    let all : w.calls - w0.calls ≡ w.calls = omega (arith, none) in
    subst (λ n. IsAsked asked n w.asked) all (subst (λ a. IsAsked a (w.calls - w0.calls) w.asked) at asks)

pub gains_opened : (held : List ℕ) (left source : Option (List ℕ)) (calls : ℕ) → prepend_known held left ≡ source
    → calls ≤ length held → IfSome source (λ octets. calls + (length (drop 24 octets) - (length held - 24))
    ≤ length octets)
gains_opened held None source calls is le = rw (← is) tt
gains_opened held (Some rest) source calls is le =
    rw (← is) (omega (arith, length-append held rest, length-drop 24 (held ++ rest), le))
