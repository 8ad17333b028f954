pub mod sim_report
pub mod graph_report
