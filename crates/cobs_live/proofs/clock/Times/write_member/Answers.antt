-- The member's name, the time, and for a date the last quote are written one after another (`behind`).
use Rattle.std.proofs.Common.{◌≡◌, ◌++◌, arith}
use Rattle.std.specs.Prelude.{codes}
use Rattle.cobs_live.specs.Timed.{json_time, time_text}
use Rattle.cobs_live.proofs.AppendLemmas.{behind}
use Rattle.cobs_live.proofs.clock.Times.write_member.Goals as goal

-- a number of seconds
pub returns-in_ok-write_all-in-Start : goal.returns-in_ok-write_all-in-Start
returns-in_ok-write_all-in-Start g c =
    let is : json_time c.args.stamp c.args.self.now ≡ codes ",\"time\":" ++ time_text c.args.stamp c.args.self.now = grind arith in
    record {
      written = rw is (behind c.write_time.result _ _ _ _ _ c.in_ok-write_all-in-Start.ensures.bytes c.write_time.ensures.written);
    }

-- a date in quotes
pub returns-in_ok-write_time-in-Date : goal.returns-in_ok-write_time-in-Date
returns-in_ok-write_time-in-Date g c =
    let time = time_text c.args.stamp c.args.self.now in
    let is : json_time c.args.stamp c.args.self.now ≡ codes ",\"time\":\"" ++ (time ++ codes "\"") = grind arith in
    let r = c.write_all-in-Date-2.result in
    let last = behind r _ _ _ _ _ c.in_ok-write_time-in-Date.ensures.written c.write_all-in-Date-2.ensures.bytes in
    record {
      written = rw is (behind r _ _ _ _ _ c.in_ok-write_all-in-Date.ensures.bytes last);
    }
