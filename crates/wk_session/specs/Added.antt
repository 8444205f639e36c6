-- The item that an edit adds to a list.
use Rattle.std.specs.Prelude.{◌≡◌, ◌<◌, ◌≤◌, ◌^◌, ℕ, ◌+◌, List, length}
use Rattle.wk_bytes.specs.Frames.{limit}
use Rattle.wk_session.specs.declared.edits.plan_append.NewItem.{NewItem}

-- The item that comes to so many in the section of an id, for which one section is made. There is room for it.
pub record IsNewItem (id count : ℕ) (alone : List ℕ) (item : NewItem) : Type 0 where
  pub id_is : item.id ≡ id
  pub count_is : item.count ≡ count
  pub room : item.count + 1 < 2 ^ 32
  pub alone_is : item.alone ≡ alone
  pub few : length item.alone ≤ limit
  pub made : item.made ≡ 1
