-- The date and time, and then the zone, are written one after another (`behind`). The zone is `Z` if the offset is 0.
use Rattle.std.proofs.Common.{◌≡◌, arith, false, Some}
use Rattle.std.specs.Prelude.{codes}
use Rattle.jiff_fmt.specs.Text.{datetime_text}
use Rattle.cobs_live.specs.Timed.{zone_text}
use Rattle.cobs_live.proofs.AppendLemmas.{behind}
use Rattle.cobs_live.proofs.clock.Moment.write.Goals as goal

-- the offset is 0
pub returns-then-self-eq0 : goal.returns-then-self-eq0
returns-then-self-eq0 g c =
    let text : c.as_bytes.result.now ≡ datetime_text false 84 (Some 3) c.args.self.now.civil = grind arith in
    let zone : zone_text c.args.self.now.offset ≡ codes "Z" = grind arith in
    let first = rw text at c.in_ok-write_all.ensures.bytes in
    record {
      written = rw zone (behind c.write_all-then-self-eq0.result _ _ _ _ _ first c.write_all-then-self-eq0.ensures.bytes);
    }

-- the offset isn't 0
pub returns : goal.returns
returns g c =
    let text : c.as_bytes.result.now ≡ datetime_text false 84 (Some 3) c.args.self.now.civil = grind arith in
    let zone : c.as_bytes-2.result.now ≡ zone_text c.args.self.now.offset = grind arith in
    record {
      written = behind c.write_all-2.result _ _ _ _ _ (rw text at c.in_ok-write_all.ensures.bytes) (rw zone at c.write_all-2.ensures.bytes);
    }
