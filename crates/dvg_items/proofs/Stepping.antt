-- Where a step past an item leads.
use Rattle.dvg_items.proofs.Common.{None, Some, ◌≡◌, arith, Kind, next_address, Known, Seen}
use Rattle.dvg_items.specs.Cursor.{Cursor, Step, Onward, Last, step_past}

-- to the next item
pub leads_on : (kind : Kind) (v : Seen) (step : Step) (next : Cursor) → step ≡ Onward next → step ≡ step_past kind v
    → (next_address kind v.item ≡ Some next.at) × (next.known ≡ v.after)
leads_on kind v step next is goes = grind (arith)

-- past the last one
pub ends_at : (kind : Kind) (v : Seen) (step : Step) (last : Known) → step ≡ Last last → step ≡ step_past kind v
    → (next_address kind v.item ≡ None) × (last ≡ v.after)
ends_at kind v step last is goes = grind (arith)
