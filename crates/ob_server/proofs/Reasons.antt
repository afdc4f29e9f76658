-- Why a run may end.
use Rattle.ob_server.specs.declared.ending.Ending.TheVariants as ending
use Rattle.ob_server.specs.declared.ending.Ending.{Ending}
use Rattle.ob_server.specs.Ending.{HasReason}

-- an ending has its reason also where more may be one
pub reason_weaker : (audits audits' input input' output output' keeper keeper' : Type 0) (why : Ending) → (audits → audits') → (input → input') → (output → output') → (keeper → keeper')
    → HasReason audits input output keeper why → HasReason audits' input' output' keeper' why
reason_weaker audits audits' input input' output output' keeper keeper' ending.Done a i o k h = tt
reason_weaker audits audits' input input' output output' keeper keeper' ending.Differs a i o k h = a h
reason_weaker audits audits' input input' output output' keeper keeper' ending.Usage a i o k h = h
reason_weaker audits audits' input input' output output' keeper keeper' (ending.Module text) a i o k h = tt
reason_weaker audits audits' input input' output output' keeper keeper' ending.ReadFault a i o k h = i h
reason_weaker audits audits' input input' output output' keeper keeper' ending.WriteFault a i o k h = o h
reason_weaker audits audits' input input' output output' keeper keeper' ending.KeeperFault a i o k h = k h
reason_weaker audits audits' input input' output output' keeper keeper' ending.NoMemory a i o k h = tt
reason_weaker audits audits' input input' output output' keeper keeper' (ending.Store cell) a i o k h = tt
reason_weaker audits audits' input input' output output' keeper keeper' (ending.TooLong number) a i o k h = tt
