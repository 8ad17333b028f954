-- Queries against the members of a class.
use Rattle.edbf_unfold.proofs.class_queries.Meaning.{equal_law, apart_law}
use Rattle.class_search.specs.class_fits.class_joining.Laws.{MembersAreEqual, MemberIsApart}

pub members_equal : MembersAreEqual
members_equal a b w taken k members v enable care kept are function same = λ u h class_is.
    let m = are.all u h class_is in
    let both = same m.0 m.1 in
    equal_law a b w kept u v m.0.1.0 enable both.0 (record { left_care = m.0.1.1; right_care = care; left_is = m.2; right_is = function; both = both.1 }) both.2

pub member_apart : MemberIsApart
member_apart a b w taken k members v enable care m both x kept are function h both_is apart =
    let own = are.each m h in
    (m.0, own.0, own.1, apart_law a b w kept m.0 v m.1.0 enable both x (record { left_care = m.1.1; right_care = care; left_is = own.2; right_is = function; both = both_is }) apart)
