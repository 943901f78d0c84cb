-- An offset without fault leads only into its own part.
use Rattle.std.proofs.Common.{◌≡◌, ℕ, ◌-◌, true, List, take, Ok, arith}
use Rattle.std.proofs.lemmas.List.{length-take}
use Rattle.std.proofs.lemmas.Option.{slice_get_within, get_or_from_slice_get}
use Rattle.pcode_file.specs.declared.file.Proc.{Proc}
use Rattle.pcode_file.specs.Parts.{Parts, end_of}
use Rattle.pcode_ops.specs.declared.instr.Instr.{Instr}
use Rattle.pcode_ops.specs.declared.instr.Instr.TheVariants.{Xjp}
use Rattle.pcode_ops.specs.Decoding.{instr_at}
use Rattle.pcode_ops.specs.Loading.{is_in, Flow, Switches, flow_of, LeadsTo}
use Rattle.pcode_ops.specs.Rules.{LiesIn, Leads}
use Rattle.pcode_ops.specs.Reach.{Reach, IsLoadable}
use Rattle.pcode_ops.specs.Staying.{StaysInPart}
use Rattle.pcode_ops.proofs.Apart.{lies_in}
use Rattle.pcode_ops.proofs.LongerCode.{decoded_longer}
use Rattle.pcode_ops.proofs.FineOffsets.{Looked, owner_is, fine_looked}
use Rattle.pcode_ops.proofs.Operating.{operands_are}
use Rattle.pcode_ops.proofs.Ruling.{flow_leads}
use Rattle.pcode_ops.proofs.DecodedIsAt.{decoded_at}

-- the UJP of a case jump lies in the part
abbrev HasJump : Proc → Flow → Type 0
HasJump q (Switches low high table) = LiesIn q (table - 2)
HasJump q _ = Unit {0}

-- the UJP of a case jump that is decoded in the part lies there
has_jump : (segment : List ℕ) (q : Proc) (i : ℕ) (instr : Instr) (j : ℕ) → instr_at (take (end_of q) segment) i ≡ Ok (instr, j)
    → LiesIn q i → HasJump q (flow_of instr)
has_jump segment q i (Xjp low high sb table) j e lies =
    let code : List ℕ = take (end_of q) segment in
    let is = operands_are code i (Xjp low high sb table) j (decoded_at code i _ j e) in
    omega (arith, is.4.3, slice_get_within code _ 185 is.3, length-take (end_of q) segment)
has_jump segment q i _ j e lies = tt

-- the rules lead only into the part
leads_inside : (segment : List ℕ) (q : Proc) (flow : Flow) (j k : ℕ) → HasJump q flow → Leads segment q flow j k → LiesIn q k
leads_inside segment q flow j k h l = grind arith

-- where an offset without fault leads lies in its owner's part
pub looked_inside : (p : Parts) (i : ℕ) (l : Looked p i) (k : ℕ) → LeadsTo p.segment l.leads k → is_in l.q k ≡ true
looked_inside p i l k to =
    let lies = (lies_in l.q i).0 (owner_is p.procs i l.q l.owned).2 in
    (lies_in l.q k).1 (leads_inside p.segment l.q (flow_of l.instr) l.next k (has_jump p.segment l.q i l.instr l.next l.decoded lies)
    ((flow_leads p.segment l.q (flow_of l.instr) l.next k l.leads l.onward).0 to))

-- an instruction at a reached offset of a loadable file leads only into the offset's part
pub reached_stays : (p : Parts) (i : ℕ) → IsLoadable p → Reach p i → (q : Proc) × StaysInPart p i q
reached_stays p i loadable reach =
    let l = fine_looked p i (loadable i reach) in
    let own = owner_is p.procs i l.q l.owned in (
      l.q,
      record {
        owner = (own.0, slice_get_within p.procs own.0 l.q own.1, get_or_from_slice_get p.procs own.0 l.q l.q own.1);
        within = own.2;
        instr = l.instr;
        next = l.next;
        found = l.decoded;
        ends = (decoded_longer p.segment (end_of l.q) i (l.instr, l.next) l.decoded).1;
        leads = l.leads;
        looked = l.looked;
        stays = looked_inside p i l;
      },
    )
