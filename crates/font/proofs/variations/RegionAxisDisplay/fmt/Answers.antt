-- Not found by the check alone.
use Rattle.std.proofs.Common.{rules}
use Rattle.font.proofs.Written.{back}
use Rattle.font.proofs.variations.RegionAxisDisplay.fmt.Goals as goal

pub returns-clause-writes : goal.returns-clause-writes
returns-clause-writes g c plain ok =
    let s = back c.to_bits-start.result c.args.self.now.start.0 (search rules) c.to_bits-start.ensures in
    let p = back c.to_bits-peak.result c.args.self.now.peak.0 (search rules) c.to_bits-peak.ensures in
    let e = back c.to_bits-end.result c.args.self.now.end.0 (search rules) c.to_bits-end.ensures in
    rw (s, p, e) at (c.write.ensures.writes plain ok)
