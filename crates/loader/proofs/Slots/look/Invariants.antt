use Rattle.std.proofs.Common.{◌≡◌, ◌<◌, ◌-◌, true}
use Rattle.loader.specs.Image as image
use Rattle.loader.proofs.Slots.look.Given as goal

-- The rows that are left tell of the whole slot, and after the first row the version is known.
abbrev pub invariant-loop-row : goal.invariant-loop-row
invariant-loop-row g l =
    let h = g.R.Rows.held l.self.rows.now in
    let all = image.rows_of_slot l.self.slot_rows l.first h.rows in
    let left = image.rows_of_slot (l.row-end - l.row) l.row h.rows in
    record {
      written : image.all_written left ≡ image.all_written all;
      sum : image.sum_rows l.sum left ≡ image.sum_rows 0 all;
      version : l.first < l.row → (h.power ≡ true) × (l.version ≡ image.version all);
    }
