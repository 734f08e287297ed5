use Rattle.std.proofs.Common.{◌≡◌, ℕ, List, None, Err, rules, refl, ap, ◌∙◌, arith}
use Rattle.fx_pcap.specs.declared.content.Content.TheVariants.{Other, Malformed}
use Rattle.fx_pcap.specs.declared.skipped.Skipped.{Skipped}
use Rattle.fx_pcap.specs.Captures.{CaptureState, skips_with}
use Rattle.fx_pcap.specs.Kept.{KeptRecord, reading_of}
use Rattle.fx_pcap.proofs.Taking.{found_is, so_small, after_record, behind, at_frame, passes_other, passes_malformed}
use Rattle.fx_pcap.proofs.Halting.{halts}
use Rattle.fx_pcap.proofs.capture.Capture.take_record.Goals as goal

pub returns-in-Packet : goal.returns-in-Packet
returns-in-Packet g c =
    let s = c.self.inside in
    let k : KeptRecord = record {
      format = s.format;
      place = s.place;
      taken = s.taken;
      skipped = s.skipped;
      fields =
          s.fields;
      octets = s.octets;
      second = s.second;
      stopped = s.stopped;
    } in
    let n = c.in-Some.size in
    let has = found_is c.in_ok-size.field-0 n _ _ c.in-Some.is c.in_ok-size.ensures.found in
    let spent = found_is c.in_ok-size.field-0 n _ _ c.in-Some.is c.in_ok-size.ensures.spent in
    let less = so_small c.in_ok-size.field-0 n _ c.in-Some.is c.in_ok-size.ensures.smaller in
    let going : (reading_of s.window k).stopped ≡ None = ap (λ (r : CaptureState). r.stopped) c.self.view_is
    ∙ c.requires in
    let fields : List ℕ = c.in-Packet.fields in
    let octets : ℕ = c.in-Packet.octets in
    let second : ℕ = c.read32-self-inside.result in
    let skipped : Skipped = s.skipped in
    let after = after_record s.window c.pass.new.self c.find_record.new.window k n c.saturating_add-self-inside.result
    skipped fields octets second c.read_content-content.result c.octets-octets.result.now c.pass.ensures
    c.in_ok-size.ensures.octets spent c.find_record.ensures.calls c.find_record.ensures.asked has less
    c.octets-octets.ensures.value c.read_content-content.ensures c.read32-self-inside.ensures (omega arith)
    c.saturating_add-self-inside.ensures going in
    rw (← c.self.view_is) (at_frame (reading_of s.window k)
    (reading_of c.find_record.new.window (behind k n c.saturating_add-self-inside.result skipped fields octets
    second)) c.read_content-content.result c.in-Packet.fields c.in-Packet.octets after c.in-Packet.is refl refl)

pub returns-in-Other : goal.returns-in-Other
returns-in-Other g c =
    let s = c.self.inside in
    let k : KeptRecord = record {
      format = s.format;
      place = s.place;
      taken = s.taken;
      skipped = s.skipped;
      fields =
          s.fields;
      octets = s.octets;
      second = s.second;
      stopped = s.stopped;
    } in
    let n = c.in-Some.size in
    let has = found_is c.in_ok-size.field-0 n _ _ c.in-Some.is c.in_ok-size.ensures.found in
    let spent = found_is c.in_ok-size.field-0 n _ _ c.in-Some.is c.in_ok-size.ensures.spent in
    let less = so_small c.in_ok-size.field-0 n _ c.in-Some.is c.in_ok-size.ensures.smaller in
    let going : (reading_of s.window k).stopped ≡ None = ap (λ (r : CaptureState). r.stopped) c.self.view_is
    ∙ c.requires in
    let fields : List ℕ = s.fields in
    let octets : ℕ = s.octets in
    let second : ℕ = c.read32-self-inside.result in
    let skipped : Skipped = skips_with s.skipped Other in
    let after = after_record s.window c.pass.new.self c.find_record.new.window k n c.saturating_add-self-inside.result
    skipped fields octets second c.read_content-content.result c.octets-octets.result.now c.pass.ensures
    c.in_ok-size.ensures.octets spent c.find_record.ensures.calls c.find_record.ensures.asked has less
    c.octets-octets.ensures.value c.read_content-content.ensures c.read32-self-inside.ensures (omega arith)
    c.saturating_add-self-inside.ensures going in
    rw (← c.self.view_is) (passes_other (reading_of s.window k)
    (reading_of c.find_record.new.window (behind k n c.saturating_add-self-inside.result skipped fields octets
    second)) c.read_content-content.result s.skipped after c.in-Other.is refl)

pub returns-in-Malformed : goal.returns-in-Malformed
returns-in-Malformed g c =
    let s = c.self.inside in
    let k : KeptRecord = record {
      format = s.format;
      place = s.place;
      taken = s.taken;
      skipped = s.skipped;
      fields =
          s.fields;
      octets = s.octets;
      second = s.second;
      stopped = s.stopped;
    } in
    let n = c.in-Some.size in
    let has = found_is c.in_ok-size.field-0 n _ _ c.in-Some.is c.in_ok-size.ensures.found in
    let spent = found_is c.in_ok-size.field-0 n _ _ c.in-Some.is c.in_ok-size.ensures.spent in
    let less = so_small c.in_ok-size.field-0 n _ c.in-Some.is c.in_ok-size.ensures.smaller in
    let going : (reading_of s.window k).stopped ≡ None = ap (λ (r : CaptureState). r.stopped) c.self.view_is
    ∙ c.requires in
    let fields : List ℕ = s.fields in
    let octets : ℕ = s.octets in
    let second : ℕ = c.read32-self-inside.result in
    let skipped : Skipped = skips_with s.skipped Malformed in
    let after = after_record s.window c.pass.new.self c.find_record.new.window k n c.saturating_add-self-inside.result
    skipped fields octets second c.read_content-content.result c.octets-octets.result.now c.pass.ensures
    c.in_ok-size.ensures.octets spent c.find_record.ensures.calls c.find_record.ensures.asked has less
    c.octets-octets.ensures.value c.read_content-content.ensures c.read32-self-inside.ensures (omega arith)
    c.saturating_add-self-inside.ensures going in
    rw (← c.self.view_is) (passes_malformed (reading_of s.window k)
    (reading_of c.find_record.new.window (behind k n c.saturating_add-self-inside.result skipped fields octets
    second)) c.read_content-content.result s.skipped after c.in-Malformed.is refl)

pub returns-in_err-size : goal.returns-in_err-size
returns-in_err-size g c =
    let s = c.self.inside in
    let k : KeptRecord = record {
      format = s.format;
      place = s.place;
      taken = s.taken;
      skipped = s.skipped;
      fields =
          s.fields;
      octets = s.octets;
      second = s.second;
      stopped = s.stopped;
    } in
    let going : (reading_of s.window k).stopped ≡ None = ap (λ (r : CaptureState). r.stopped) c.self.view_is
    ∙ c.requires in
    let halted = halts s.window c.pass.new.self c.find_record.new.window k c.in_err-size.field-0.0 c.pass.ensures
    c.find_record.ensures.calls c.find_record.ensures.asked c.in_err-size.ensures.stop going in
    let is : c.from_residual.result ≡ Err c.in_err-size.field-0.0 = search rules in
    rw (← c.self.view_is) (rw is halted)
