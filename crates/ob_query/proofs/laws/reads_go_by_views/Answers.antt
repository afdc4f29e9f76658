-- Each call in turn, by the groups that its caller has in both.
use Rattle.ob_query.proofs.Isolation.{counts_alike, reads_alike, search_reads_alike, searches_alike}
use Rattle.ob_query.proofs.laws.reads_go_by_views.Goals as goal

pub returns-clause-reads : goal.returns-clause-reads
returns-clause-reads c models policy asked one other info alike outcome tells =
    let both = alike tells.0 tells.1 in
    (tells.0, both.0, reads_alike models policy tells.0 asked.caller one other both.1 c.domains_go_by_fields.ensures asked info outcome tells.2)

pub returns-clause-searches : goal.returns-clause-searches
returns-clause-searches c models policy asked one other info alike outcome tells =
    let both = alike tells.0 tells.1 in
    (tells.0, both.0, searches_alike models policy tells.0 asked.caller one other both.1 c.domains_go_by_fields.ensures asked info outcome tells.2)

pub returns-clause-counts : goal.returns-clause-counts
returns-clause-counts c models policy asked one other info alike outcome tells =
    let both = alike tells.0 tells.1 in
    (tells.0, both.0, counts_alike models policy tells.0 asked.caller one other both.1 c.domains_go_by_fields.ensures asked info outcome tells.2)

pub returns-clause-objects : goal.returns-clause-objects
returns-clause-objects c models policy asked one other info alike outcome tells =
    let both = alike tells.0 tells.1 in
    (tells.0, both.0, search_reads_alike models policy tells.0 asked.caller one other both.1 c.domains_go_by_fields.ensures asked info outcome tells.2)
