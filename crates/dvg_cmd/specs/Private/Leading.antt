-- How the names of the frames that take most are kept.
use Rattle.std.specs.Prelude.{String, false, if◌then◌else◌, nat_lt, string_bytes, ◌≡◌, ◌≢◌}
use Rattle.std.specs.Global.{Global}
use Rattle.dvg_clocks.specs.declared.judging.TimedYes.{TimedYes}
use Rattle.dvg_cmd.specs.Most.{Leader, Most, clocks_in, depth_in, words_in}
use Rattle.dvg_cmd.specs.declared.most.Lead.{Lead}
use Rattle.dvg_cmd.specs.declared.most.Leads.{Leads}
use Rattle.dvg_cmd.specs.declared.most.Names.{Names}
use Rattle.dvg_cmd.specs.declared.most.Outdone.{Outdone}
use Rattle.dvg_cmd.specs.declared.most.Slot.{Slot}
use Rattle.dvg_cmd.specs.declared.most.Slot.TheVariants.{First, Second, Third}

-- the name at a place
abbrev pub name_at : Names → Slot → String Global
name_at names First = names.first
name_at names Second = names.second
name_at names Third = names.third

-- another name there
abbrev pub with_name : Names → Slot → String Global → Names
with_name names First name = record names { first = name }
with_name names Second name = record names { second = name }
with_name names Third name = record names { third = name }

-- a frame by its name
abbrev pub leader : Names → Lead → Leader
leader names lead = record { name = string_bytes (name_at names lead.slot); timed = lead.timed }

-- the three frames
abbrev pub most_in : Names → Leads → Most
most_in names leads = record { words = leader names leads.words; depth = leader names leads.depth; clocks = leader names leads.clocks }

-- what a frame takes more of
abbrev pub outdone_by : Leads → TimedYes → Outdone
outdone_by leads t =
    record {
      words = nat_lt (words_in leads.words.timed) (words_in t);
      depth = nat_lt (depth_in leads.depth.timed) (depth_in t);
      clocks = nat_lt (clocks_in leads.clocks.timed) (clocks_in t);
    }

-- nothing is outdone
abbrev pub OutdoesNone : Outdone → Type 0
OutdoesNone o = (o.words ≡ false) × (o.depth ≡ false) × (o.clocks ≡ false)

-- at this place no name stands of a frame that is not outdone
abbrev pub IsFree : Leads → Outdone → Slot → Type 0
IsFree leads o slot =
    (o.words ≡ false → slot ≢ leads.words.slot) × (o.depth ≡ false → slot ≢ leads.depth.slot)
    × (o.clocks ≡ false → slot ≢ leads.clocks.slot)

-- this frame in place of those that are outdone
abbrev pub leads_with : Leads → Outdone → Lead → Leads
leads_with leads o lead =
    record {
      words = if o.words then lead else leads.words;
      depth = if o.depth then lead else leads.depth;
      clocks = if o.clocks then lead else leads.clocks;
    }
