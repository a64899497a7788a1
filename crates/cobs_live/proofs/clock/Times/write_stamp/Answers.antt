-- The time, and then a space, are written one after another (`behind`).
use Rattle.std.proofs.Common.{◌≡◌, ◌++◌, arith}
use Rattle.std.specs.Prelude.{codes}
use Rattle.cobs_live.specs.Timed.{stamped, time_text}
use Rattle.cobs_live.proofs.AppendLemmas.{behind}
use Rattle.cobs_live.proofs.clock.Times.write_stamp.Goals as goal

pub returns-in_ok-write_time-in-Start : goal.returns-in_ok-write_time-in-Start
returns-in_ok-write_time-in-Start g c =
    let is : stamped c.args.stamp c.args.self.now ≡ time_text c.args.stamp c.args.self.now ++ codes " " = grind arith in
    record {
      written = rw is (behind c.write_all.result _ _ _ _ _ c.in_ok-write_time-in-Start.ensures.written c.write_all.ensures.bytes);
    }
