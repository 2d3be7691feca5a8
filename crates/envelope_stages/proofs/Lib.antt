-- each of four levels on the chart
pub mod OnChart
