-- The test of equality tells whether entries are the same.
use Rattle.dvg_survey.proofs.Common.{◌≡◌, nat_tests, Entry, Key, End, LitBox, arith, Decides-int_eq}
use Rattle.std.specs.Bool.{Decides}
use Rattle.dvg_cert.specs.contracts.entry.KeyPartialEq.TheImpl as key
use Rattle.dvg_cert.specs.contracts.entry.EndPartialEq.TheImpl as end
use Rattle.dvg_cert.specs.contracts.entry.LitBoxPartialEq.TheImpl as box
use Rattle.dvg_cert.specs.contracts.entry.EntryPartialEq.TheImpl as entry

key_decides : (a b : Key) → Decides (key.ghosts.eq a b) (a ≡ b)
key_decides a b = grind (arith, nat_tests)

end_decides : (a b : End) → Decides (end.ghosts.eq a b) (a ≡ b)
end_decides a b = grind (arith)

box_decides : (a b : LitBox) → Decides (box.ghosts.eq a b) (a ≡ b)
box_decides a b = grind (arith, Decides-int_eq)

pub entry_decides : (a b : Entry) → Decides (entry.ghosts.eq a b) (a ≡ b)
entry_decides a b = grind (arith, end_decides, box_decides, key_decides)
