use Rattle.std.proofs.Common.{◌≡◌, ◌-◌}
use Rattle.wk_place.specs.Seeking.{all_passed, item_passed}
use Rattle.wk_place.proofs.items.ItemReader.pass_items.Given as goal

abbrev pub invariant-loop : goal.invariant-loop
invariant-loop l = record {
  profile : l.self.profile ≡ l.fn.self.profile;
  end : l.cursor.end ≡ l.fn.cursor.end;
  reads : all_passed (item_passed l.fn.self.profile l.section) (l.count - l.counter) l.cursor.end l.cursor.rest
      ≡ all_passed (item_passed l.fn.self.profile l.section) l.count l.fn.cursor.end l.fn.cursor.rest;
}
