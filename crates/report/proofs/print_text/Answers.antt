-- `report::print_text` meets its contract: what was read is told, or the refusal is put. Assumes nothing.
use mathlib.Core.Path.{◌≡◌, refl}
use Prim.Native.Nat.{◌≤◌}
use native.Mathlib.Omega.{arith}
use lib.ListN.{length}
use Rattle.std.proofs.Common.{Ok}
use borrow.Author.Rules.{rules}
use Rattle.report.specs.Report.{TextTold}
use Rattle.report.proofs.Reports.{refusal-filled, refusal-put}
use Rattle.report.proofs.print_text.Goals as goal

pub tell-requires : goal.tell-requires
tell-requires g c =
    let r = c.in-Ok.ensures in
    let h = c.requires.tells c.if-output-limit.false r.lines r.read in search rules

pub returns-in-Ok : goal.returns-in-Ok
returns-in-Ok g c =
    let r = c.in-Ok.ensures in (
      c.if-output-limit.false,
      TextTold.told r.lines r.read (record { given = _; gives = r.held_is; lent = _; lends = refl; left = _; met = c.tell.ensures; leaves = refl }),
    )

pub unwrap-requires : goal.unwrap-requires
unwrap-requires g c =
    let r = c.in-Err.ensures in
    let put : c.put_refusal.result ≡ Ok 20 = refusal-put _ _ _ _ _ c.put_refusal.ensures r.number r.line (omega (arith, c.requires.room, c.if-output-limit.false)) in
    rw put refl

pub returns-in-Err : goal.returns-in-Err
returns-in-Err g c =
    let r = c.in-Err.ensures in
    let room : 20 ≤ length c.args.output.now = omega (arith, c.requires.room, c.if-output-limit.false) in
    let put : c.put_refusal.result ≡ Ok 20 = refusal-put _ _ _ _ _ c.put_refusal.ensures r.number r.line room in
    let twenty : c.unwrap.result ≡ 20 = cc in (
      c.if-output-limit.false,
      TextTold.unread c.in-Err.said.number c.in-Err.said.line r.read
          (rw twenty (refusal-filled _ _ _ _ _ c.put_refusal.ensures r.number r.line room)),
    )
